-- What the proofs of crates above may cite of this crate's lemmas, and nothing else of its proofs: no key of a call takes a
-- whole granule, a call writes only keys that it declares, at most 16 of them, and of keys none is the first that is no key.
pub use Rattle.dt_eval.proofs.CallLaws.{call_keys_narrow, call_writes_declared, call_writes_few}
pub use Rattle.dt_eval.proofs.KeyLaws.{no_bad}

-- What a caller's proof needs of ids and keys: the order of ids and of keys, what the tests on them say, granules and units,
-- and when uses of rows clash. All other lemmas of this crate are its own.
pub use Rattle.dt_access.proofs.Ids.{among_of_has, before_decided, before_differs, before_irreflexive, before_or_above, before_total, before_transitive, either_id}
pub use Rattle.dt_access.proofs.Ids.{by_parts, compare_less, compare_same, has_of_among, id_of_test, not_among, same_by_parts, same_id_turned, test_of_id, test_of_other}
pub use Rattle.dt_access.proofs.KeyOrder.{key_before_flip, key_of_test, same_key_after, same_key_before, same_key_equal, same_key_other, same_key_self, tells_key, test_of_key}
pub use Rattle.dt_access.proofs.IdTexts.{either_id_text, id_text-injective}
pub use Rattle.dt_access.proofs.GranuleLaws.{unit_again}
pub use Rattle.dt_access.proofs.Units.{clash_cases, moves_clash, units_of_clash, uses_clash_symmetric, uses_of_granule, uses_of_row}
pub use Rattle.dt_access.proofs.ClashLaws.{clash_of_uses, clash_symmetric, uses_of_clash}

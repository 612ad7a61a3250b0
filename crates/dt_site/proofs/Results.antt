-- What is so whether or not a call failed, is so where it did not fail.
use Rattle.std.specs.Prelude.{Result, Ok, Err, OnOk}

pub on_ok : {T E P : Type 0} (r : Result T E) → P → OnOk r P
on_ok (Ok x) p = p
on_ok (Err e) p = tt

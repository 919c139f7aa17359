-- What holds after Ok.
use Rattle.std.proofs.Common.{Result, Ok, Err, OnOk}

pub on_both : {X E : Type 0} (r : Result X E) {A B C : Type 0} → (A → B → C) → OnOk r A → OnOk r B → OnOk r C
on_both (Ok x) f a b = f a b
on_both (Err e) f a b = tt

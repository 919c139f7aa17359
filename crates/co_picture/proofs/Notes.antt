-- A note that is put piece by piece.
use Rattle.std.proofs.Common.{◌≡◌, inl, inr, ℕ, List, ◌++◌, length, take, drop, Option, Some, Result, Ok, Err, OnOk, OnErr, IsErrOf, refl, sym, ap, ◌∙◌, append_assoc}
use Rattle.std.proofs.Math.Seq.{take-append_seam}
use Rattle.std.proofs.lemmas.List.{take-append-drop}
use Rattle.co_outside.specs.Faults.{HasRisen}
use Rattle.co_outside.specs.Sink.{HasNoted}
use Rattle.co_outside.specs.declared.sink.SinkFault.{SinkFault}
use Rattle.co_outside.specs.declared.sink.SinkFault.TheVariants.{Failed, Memory}

-- a front of one piece behind whole ones is a front of all of them
front_of : (a b c : List ℕ) (count : ℕ) → take (length (a ++ take count b)) (a ++ (b ++ c)) ≡ a ++ take count b
front_of a b c count =
    ap (λ t. take (length (a ++ take count b)) (a ++ (t ++ c))) (sym (take-append-drop count b))
    ∙ ap (λ t. take (length (a ++ take count b)) (a ++ t)) (append_assoc (take count b) (drop count b) c)
    ∙ ap (take (length (a ++ take count b))) (sym (append_assoc a (take count b) (drop count b ++ c)))
    ∙ take-append_seam (a ++ take count b) (drop count b ++ c)

pub cut_in : (held a b c text : List ℕ) (told : Option (List ℕ)) → text ≡ a ++ (b ++ c) → (count : ℕ) × (told ≡ Some ((held ++ a) ++ take count b)) → (count : ℕ) × (told ≡ Some (held ++ take count text))
cut_in held a b c text told all part = (
  length (a ++ take part.0 b),
  part.1 ∙ ap Some (append_assoc held a (take part.0 b) ∙ ap (λ t. held ++ t) (sym (ap (take (length (a ++ take part.0 b))) all ∙ front_of a b c part.0))),
)

pub at_fault : {X E : Type 0} (r : Result X E) (P : Type 0) → P → OnErr r P
at_fault (Ok x) P p = tt
at_fault (Err e) P p = p

-- how a note was put
pub noted_as : (held text : List ℕ) (told : Option (List ℕ)) (faults now lacks lacks_now : ℕ) (r : Result (Unit {0}) SinkFault) →
    OnOk r (told ≡ Some (held ++ text)) → OnErr r ((count : ℕ) × (told ≡ Some (held ++ take count text))) →
    (IsErrOf r Failed → HasRisen faults now) → (IsErrOf r Memory → HasRisen lacks lacks_now) → HasNoted held text told faults now lacks lacks_now
noted_as held text told faults now lacks lacks_now (Ok done) whole front failed memory = inl whole
noted_as held text told faults now lacks lacks_now (Err Failed) whole front failed memory = inr (front, inl (failed refl))
noted_as held text told faults now lacks lacks_now (Err Memory) whole front failed memory = inr (front, inr (memory refl))

-- Pieces of a text, appended one behind the other.
use Rattle.std.proofs.Common.{◌≡◌, ℕ, if◌then◌else◌, List, ◌++◌, Result, Ok, Err, OnOk, ap, ◌∙◌, append_assoc}
use Rattle.std.specs.Prelude.{is_ok}

-- three pieces, where the last one was appended or not
pub three_pieces : {T E : Type 0} (r : Result T E) (old one two three first second new : List ℕ) → first ≡ old ++ one → second ≡ first ++ two →
    new ≡ (if is_ok r then second ++ three else second) → OnOk r (new ≡ old ++ (one ++ (two ++ three)))
three_pieces (Ok done) old one two three first second new a b c =
    c ∙ ap (λ t. t ++ three) b ∙ ap (λ t. (t ++ two) ++ three) a ∙ append_assoc (old ++ one) two three ∙ append_assoc old one (two ++ three)
three_pieces (Err why) old one two three first second new a b c = tt

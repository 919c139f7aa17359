-- The line of a summary.
use Rattle.std.specs.Prelude.{ℕ, List, [], ◌∷◌, ◌++◌, codes, string_bytes}
use Rattle.serde_json.specs.Data.{Data, boolean, number, unsigned, string, object, member, no_members}
use Rattle.serde_json.specs.Written.{compact_text}
use Rattle.co_trial.specs.declared.summary.Summary.{Summary}

-- what it says, by its keys in their order
abbrev pub summary_value : Summary → Data
summary_value s =
    object
    (member (codes "begun") (number (unsigned s.begun))
    (member (codes "committed") (number (unsigned s.committed))
    (member (codes "digest") (string (string_bytes s.digest))
    (member (codes "equal") (boolean s.equal)
    (member (codes "events") (number (unsigned s.events))
    (member (codes "number") (number (unsigned s.number))
    (member (codes "open") (number (unsigned s.open))
    (member (codes "settled") (number (unsigned s.settled)) no_members))))))))

-- as compact JSON, and a newline
abbrev pub summary_line : Summary → List ℕ
summary_line s = compact_text (summary_value s) ++ 10 ∷ []

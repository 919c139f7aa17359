-- From one moment of a source to the next.
use Rattle.std.proofs.Common.{◌≡◌, ℕ, Bool, true, false, ◌||◌, List, [], ◌++◌, Result, Ok, Err, refl, sym, ap, ◌∙◌, append_assoc, append-nil}
use Rattle.std.proofs.lemmas.List.{append_cancel_left}
use Rattle.co_outside.specs.Onward.{Past, IsOnward, LiesAhead}
use Rattle.co_outside.specs.Source.{given, ended_by, went_on_by}
use Rattle.co_outside.specs.declared.source.SourceFault.{SourceFault}
use Rattle.co_outside.specs.declared.source.Taken.{Taken}
use Rattle.co_outside.specs.declared.source.Taken.TheVariants.{Bytes, End}

first_false : (a b : Bool) → (a || b) ≡ false → (a ≡ false) × (b ≡ false)
first_false true b e = absurd (let z : true ≡ false = e in cc)
first_false false b e = (refl, e)

-- one call
pub onward_by : (result : Result Taken SourceFault) (old new : Past) → new.gave ≡ old.gave ++ given result → new.ended ≡ ended_by result old.ended → new.went_on ≡ went_on_by result old.ended old.went_on → IsOnward old new
onward_by (Ok (Bytes bytes)) old new gave ended went_on = record {
  given = given (Ok (Bytes bytes));
  grown = gave;
  steady = λ still. (first_false old.ended old.went_on (sym went_on ∙ still)).1;
  over = λ over still. absurd (let z : true ≡ false = sym over ∙ (first_false old.ended old.went_on (sym went_on ∙ still)).0 in cc);
}
onward_by (Ok End) old new gave ended went_on = record { given = []; grown = gave; steady = λ still. sym went_on ∙ still; over = λ over still. (refl, ended) }
onward_by (Err fault) old new gave ended went_on = record { given = []; grown = gave; steady = λ still. sym went_on ∙ still; over = λ over still. (refl, ended ∙ over) }

pub onward_not : (old : Past) → IsOnward old old
onward_not old = record { given = []; grown = sym (append-nil old.gave); steady = λ still. still; over = λ over still. (refl, over) }

pub onward_then : (old mid new : Past) → IsOnward old mid → IsOnward mid new → IsOnward old new
onward_then old mid new one other = record {
  given = one.given ++ other.given;
  grown = other.grown ∙ ap (λ g. g ++ other.given) one.grown ∙ append_assoc old.gave one.given other.given;
  steady = λ still. one.steady (other.steady still);
  over = λ over still.
      let a = one.over over (other.steady still) in
      let b = other.over a.1 still in
      (ap (λ g. g ++ other.given) a.0 ∙ b.0, b.1);
}

-- what lies ahead between two moments lies ahead at the one between them
pub record IsBetween (old mid new : Past) (text more : List ℕ) : Type 0 where
  pub rest : List ℕ
  pub first : LiesAhead old mid text rest
  pub then : LiesAhead mid new rest more

pub between : (old mid new : Past) (text more : List ℕ) → IsOnward mid new → LiesAhead old new text more → IsBetween old mid new text more
between old mid new text more on ahead =
    let same : mid.gave ++ (on.given ++ more) ≡ new.gave ++ more = sym (append_assoc mid.gave on.given more) ∙ ap (λ g. g ++ more) (sym on.grown) in
    record {
      rest = on.given ++ more;
      first = record {
        same = ahead.same ∙ sym same;
        over = λ over. let it = on.over over ahead.steady in ap (λ g. g ++ more) it.0 ∙ ahead.over it.1;
        steady = on.steady ahead.steady;
      };
      then = record { same = same; over = ahead.over; steady = ahead.steady };
    }

-- the bytes that were added stand at the front of what lay ahead
pub ahead_is : (old new : Past) (text more given : List ℕ) → new.gave ≡ old.gave ++ given → LiesAhead old new text more → text ≡ given ++ more
ahead_is old new text more given grown ahead = append_cancel_left old.gave text (given ++ more) (ahead.same ∙ ap (λ g. g ++ more) grown ∙ append_assoc old.gave given more)

-- What an active transaction keeps, as its engine changes.
use Rattle.std.proofs.Common.{◌≡◌, ℕ, true, false, ◌≤◌, nat_lt, if◌then◌else◌, List, [], ◌∷◌, length, Option, None, Some, refl, sym, ap, ◌∙◌, subst, arith}
use Rattle.std.proofs.lemmas.Bool.Decides.{nat_tests}
use Rattle.std.specs.Option.{is_some}
use Rattle.co_serial.specs.Records.{Records, with_changes}
use Rattle.co_serial.specs.SerialRun.{reply_to}
use Rattle.co_state.specs.declared.engine_state.EngineState.{EngineState}
use Rattle.co_state.specs.declared.engine_state.Install.{Install}
use Rattle.co_state.specs.declared.engine_state.Operation.{Operation}
use Rattle.co_state.specs.Changes.{changes_of}
use Rattle.co_state.specs.EngineState.{operations_in, operations_of, records_now, records_at}
use Rattle.co_state.specs.Table.{look}
use Rattle.co_state.specs.VotingRule.{kept_count}
use Rattle.co_plain.specs.declared.session.Session.{Session}
use Rattle.co_plain.specs.declared.session.Told.{Told}
use Rattle.co_plain.specs.Sessions.{told_at, count_at}
use Rattle.co_plain.specs.Decisions.{told_in}
use Rattle.co_plain.specs.Invariants.{KeptAsTold, StampsIn}

-- the same records at each stamp
pub kept_same : (a b : EngineState) (os : List Operation) (told : List Told) → ((stamp : ℕ) → records_at a.base a.installed stamp ≡ records_at b.base b.installed stamp) →
    KeptAsTold a os told → KeptAsTold b os told
kept_same a b [] [] h k = tt
kept_same a b [] (t ∷ ts) h k = k
kept_same a b (o ∷ os) [] h k = k
kept_same a b (o ∷ os) (t ∷ ts) h k = (k.0, k.1 ∙ ap (λ r. reply_to (with_changes r (changes_of os)) o.op) (h o.stamp), kept_same a b os ts h k.2)

-- one more install changes nothing that was seen
earlier : (base : Records) (i : Install) (is : List Install) (stamp : ℕ) → stamp ≤ length is → records_at base is stamp ≡ records_at base (i ∷ is) stamp
earlier base i is stamp l =
    let f : nat_lt (length is) stamp ≡ false = grind (arith, nat_tests, l) in
    sym (ap (λ b. if b then records_now base (i ∷ is) else records_at base is stamp) f)

pub kept_install : (b : EngineState) (i : Install) (os : List Operation) (told : List Told) (c : EngineState) → c.base ≡ b.base → c.installed ≡ i ∷ b.installed →
    StampsIn (length b.installed) os → KeptAsTold b os told → KeptAsTold c os told
kept_install b i [] [] c p q s k = tt
kept_install b i [] (t ∷ ts) c p q s k = k
kept_install b i (o ∷ os) [] c p q s k = k
kept_install b i (o ∷ os) (t ∷ ts) c p q s k = (
  k.0,
  k.1 ∙ ap (λ r. reply_to (with_changes r (changes_of os)) o.op)
      (earlier b.base i b.installed o.stamp s.0 ∙ (λ j. records_at (sym p j) (sym q j) o.stamp)),
  kept_install b i os ts c p q s.1 k.2,
)

pub stamps_more : (n m : ℕ) (os : List Operation) → n ≤ m → StampsIn n os → StampsIn m os
stamps_more n m [] l s = tt
stamps_more n m (o ∷ os) l s = (omega (arith, l, s.0), stamps_more n m os l s.1)

pub count_told : (told : List Told) (m : ℕ) → count_at told m ≡ length (told_at told m)
count_told [] m = refl
count_told (o ∷ os) m = grind (arith, nat_tests, count_told os m)

-- where a client was told of as many operations as are kept, none of them may be kept
pub kept_so_far : (b : EngineState) (t : ℕ) (told : List Told) → kept_count b t ≡ length told →
    ((os : List Operation) → look b.active t ≡ Some os → KeptAsTold b os told × StampsIn (length b.installed) os) →
    KeptAsTold b (operations_of b t) told × StampsIn (length b.installed) (operations_of b t)
kept_so_far b t told same active = by (look b.active t) refl
  where
    nothing : (ts : List Told) → 0 ≡ length ts → KeptAsTold b [] ts
    nothing [] e = tt
    nothing (x ∷ xs) e = absurd (omega (arith, e))

    by : (o : Option (List Operation)) → look b.active t ≡ o → KeptAsTold b (operations_of b t) told × StampsIn (length b.installed) (operations_of b t)
    by None e =
        subst (λ os. KeptAsTold b os told × StampsIn (length b.installed) os) (sym (ap operations_in e))
        (nothing told (sym (ap (λ o. length (operations_in o)) e) ∙ same), tt)
    by (Some os) e = subst (λ os. KeptAsTold b os told × StampsIn (length b.installed) os) (sym (ap operations_in e)) (active os e)

-- who was told of operations was begun
pub told_begun : (o : Option Session) (m : ℕ) → 1 ≤ count_at (told_in o) m → is_some o ≡ true
told_begun None m h = absurd (omega (arith, h))
told_begun (Some session) m h = refl

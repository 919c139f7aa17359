use Rattle.std.proofs.Common.{◌≡◌, subst, Some, None, refl}
use Rattle.co_check.specs.declared.place.Place.{Place}
use Rattle.co_check.specs.Kept.{IsNext, Follows}
use Rattle.co_check.specs.Shape.{Read, next}
use Rattle.co_check.proofs.Ledgers.{taken, broken}
use Rattle.co_check.proofs.checker.Checker.take.Goals as goal

pub returns-in-Ok-Some-clause-taken : goal.returns-in-Ok-Some-clause-taken
returns-in-Ok-Some-clause-taken c = λ start r f.
    let at : Place → Read = λ p. record { place = p; account = r.account } in
    let is : IsNext start (next (at c.args.self.place) c.args.item) (Some c.in-Ok-Some.place) c.next.new.ledger =
    subst (λ o. IsNext start (next (at c.args.self.place) c.args.item) o c.next.new.ledger) c.in-Ok-Some.field-0-is (c.in-Ok-Some.ensures.next start r.account f.account) in
    subst (λ p. (x : Read) × (next (at p) c.args.item ≡ Some x) × Follows start (record { place = c.in-Ok-Some.place; ledger = c.next.new.ledger }) x) f.place
    (taken start (next (at c.args.self.place) c.args.item) c.in-Ok-Some.place c.next.new.ledger is)

pub returns-in-Ok-None-clause-taken : goal.returns-in-Ok-None-clause-taken
returns-in-Ok-None-clause-taken c = λ start r f.
    let at : Place → Read = λ p. record { place = p; account = r.account } in
    let is : IsNext start (next (at c.args.self.place) c.args.item) None c.next.new.ledger =
    subst (λ o. IsNext start (next (at c.args.self.place) c.args.item) o c.next.new.ledger) c.in-Ok-None.field-0-is (c.in-Ok-None.ensures.next start r.account f.account) in
    (refl, subst (λ p. next (at p) c.args.item ≡ None) f.place (broken start (next (at c.args.self.place) c.args.item) c.next.new.ledger is))

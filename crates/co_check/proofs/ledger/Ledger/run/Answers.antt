use Rattle.std.proofs.Common.{◌≡◌, ◌∙◌, ◌∷◌, List, reverse, sym, ap, subst}
use Rattle.std.proofs.lemmas.List.{reverse-reverse}
use Rattle.co_serial.specs.Family.{family_of}
use Rattle.co_check.specs.Account.{Committed}
use Rattle.co_check.specs.Kept.{IsJudged}
use Rattle.co_check.specs.Runs.{IsRunOf}
use Rattle.co_check.proofs.Serially.{judged_on, served_onto, unlike_onto, so_far}
use Rattle.co_check.proofs.ledger.Ledger.run.Goals as goal

turned : {A : Type 0} (xs ys : List A) → reverse xs ≡ ys → xs ≡ reverse ys
turned xs ys e = sym (reverse-reverse xs) ∙ ap reverse e

pub returns-then-is_some-clause-judged : goal.returns-then-is_some-clause-judged
returns-then-is_some-clause-judged c = λ start committed j.
    judged_on start c.args.self.now.differs c.args.self.now.map c.args.self.now.map committed (record { txn = c.args.t; told = c.args.told }) (sym c.is_some.ensures ∙ c.if-is_some.true) j

pub returns-in-None-clause-judged : goal.returns-in-None-clause-judged
returns-in-None-clause-judged c = λ start committed j.
    let d : Committed = record { txn = c.args.t; told = c.args.told } in
    let now = so_far start c.args.self.now.differs c.args.self.now.map committed (sym c.is_some.ensures ∙ c.if-is_some.false) j in
    let ran = subst (IsRunOf (family_of c.args.self.now.map) (family_of c.first_unlike.new.map) c.into_oldest_first.result.items) c.in-None.is c.in_ok-first_unlike.ensures in
    subst (λ o. IsJudged start o c.first_unlike.new.map (d ∷ committed)) (sym now.0)
    (served_onto start (family_of c.args.self.now.map) (family_of c.first_unlike.new.map) c.into_oldest_first.result.items committed c.args.t c.args.told now.2 (turned c.into_oldest_first.result.items c.args.told c.into_oldest_first.ensures) now.1 ran)

pub returns-in-Some-clause-judged : goal.returns-in-Some-clause-judged
returns-in-Some-clause-judged c = λ start committed j.
    let now = so_far start c.args.self.now.differs c.args.self.now.map committed (sym c.is_some.ensures ∙ c.if-is_some.false) j in
    let ran = subst (IsRunOf (family_of c.args.self.now.map) (family_of c.first_unlike.new.map) c.into_oldest_first.result.items) c.in-Some.is c.in_ok-first_unlike.ensures in
    unlike_onto start (family_of c.args.self.now.map) c.into_oldest_first.result.items committed c.args.t c.args.told c.in-Some.at now.2 (turned c.into_oldest_first.result.items c.args.told c.into_oldest_first.ensures) now.1 ran

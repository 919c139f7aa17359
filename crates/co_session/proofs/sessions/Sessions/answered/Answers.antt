use Rattle.std.proofs.Common.{◌≡◌, ◌∙◌, ap, sym, is_some, Some, Result, Ok, Err, OnOk, OnErr, true≢false, nat_eq, arith}
use Rattle.std.specs.FinMap.{from_entries}
use Rattle.std.specs.Map.{keys_of, set_value}
use Rattle.co_state.specs.Table.{look, put}
use Rattle.co_plain.specs.declared.session.Told.{Told}
use Rattle.co_plain.specs.Sessions.{with_told}
use Rattle.co_session.specs.Clients.{Clients, changed, with_answered, carried_of}
use Rattle.co_session.proofs.Tables.{looked, rewritten}
use Rattle.std.proofs.lemmas.Map.Steps.{set_value_same}
use Rattle.co_session.proofs.sessions.Sessions.answered.Goals as goal

on_ok : {T E A B : Type 0} (r : Result T E) → (A → B) → OnOk r A → OnOk r B
on_ok (Ok x) f a = f a
on_ok (Err e) f a = a

on_err : {T E A B : Type 0} (r : Result T E) → (A → B) → OnErr r A → OnErr r B
on_err (Ok x) f a = a
on_err (Err e) f a = f a

pub unreachable-requires : goal.unreachable-requires
unreachable-requires c =
    let none = c.in_default.ensures.value ∙ sym (looked c.self.inside.begun.entries c.args.t) ∙ ap (λ x. look x.sessions c.args.t) c.self.view_is in
    true≢false (sym (ap is_some none ∙ c.requires.begun))

pub tell-requires : goal.tell-requires
tell-requires c =
    let was : look c.args.self.now.sessions c.args.t ≡ Some c.in-Some.client.now =
    ap (λ x. look x.sessions c.args.t) (sym c.self.view_is) ∙ looked c.self.inside.begun.entries c.args.t ∙ sym c.in-Some.ensures.value in
    let same = ap (λ o. carried_of o c.args.site.member) was in
    omega (arith, same, c.requires.count)

pub returns-clause-ok : goal.returns-clause-ok
returns-clause-ok c =
    let es = c.self.inside.begun.entries in
    let old : Clients = record { sessions = from_entries es; begun = keys_of es; used = c.self.inside.used } in
    let wrote = c.get_mut.follows.holds c.tell.new.self in
    let there = sym (ap is_some c.in-Some.ensures.value) in
    let table = rewritten es (c.get_mut.follows.lender c.tell.new.self).entries c.args.t c.tell.new.self (wrote.3 there).0 in
    let o : Told = record { site = c.args.site; reply = c.args.reply } in
    on_ok c.tell.result
    (λ told. (λ i. record {
      sessions = (table ∙ ap (put (from_entries es) c.args.t) told) i;
      begun = wrote.1 i;
      used = c.self.inside.used;
    })
    ∙ ap (changed old c.args.t (λ session. with_told session o)) (c.in-Some.ensures.value ∙ sym (looked es c.args.t))
    ∙ ap (λ x. with_answered x c.args.t o) c.self.view_is)
    c.tell.ensures.ok

pub returns-clause-err : goal.returns-clause-err
returns-clause-err c =
    let es = c.self.inside.begun.entries in
    let wrote = c.get_mut.follows.holds c.tell.new.self in
    on_err c.tell.result
    (λ same. let kept = wrote.0 ∙ ap (set_value (nat_eq c.args.t) es) same ∙ set_value_same (nat_eq c.args.t) es c.in-Some.client.now (sym c.in-Some.ensures.value) in
    (λ i. record { sessions = from_entries (kept i); begun = keys_of (kept i); used = c.self.inside.used }) ∙ c.self.view_is)
    c.tell.ensures.err

use Rattle.std.proofs.Common.{◌∙◌, ap, sym, is_some, true≢false}
use Rattle.std.specs.FinMap.{from_entries}
use Rattle.std.specs.Map.{keys_of}
use Rattle.co_state.specs.Table.{look, put}
use Rattle.co_plain.specs.Sessions.{asked_to_end}
use Rattle.co_session.specs.Clients.{Clients, changed, with_asked}
use Rattle.co_session.proofs.Tables.{looked, rewritten}
use Rattle.co_session.proofs.sessions.Sessions.asked.Goals as goal

pub unreachable-requires : goal.unreachable-requires
unreachable-requires c =
    let none = c.in_default.ensures.value ∙ sym (looked c.self.inside.begun.entries c.args.t) ∙ ap (λ x. look x.sessions c.args.t) c.self.view_is in
    true≢false (sym (ap is_some none ∙ c.requires.begun))

pub returns : goal.returns
returns c =
    let es = c.self.inside.begun.entries in
    let old : Clients = record { sessions = from_entries es; begun = keys_of es; used = c.self.inside.used } in
    let wrote = c.get_mut.follows.holds c.ask.new.self in
    let there = sym (ap is_some c.in-Some.ensures.value) in
    let table = rewritten es (c.get_mut.follows.lender c.ask.new.self).entries c.args.t c.ask.new.self (wrote.3 there).0 in
    (λ i. record {
      sessions = (table ∙ ap (put (from_entries es) c.args.t) c.ask.ensures) i;
      begun = wrote.1 i;
      used = c.self.inside.used;
    })
    ∙ ap (changed old c.args.t asked_to_end) (c.in-Some.ensures.value ∙ sym (looked es c.args.t))
    ∙ ap (λ x. with_asked x c.args.t) c.self.view_is

use Rattle.std.proofs.Common.{◌≡◌, ◌∙◌, ◌++◌, ◌∷◌, [], ap, sym, None, nat_eq}
use Rattle.std.specs.FinMap.{from_entries}
use Rattle.std.specs.Map.{keys_of, lookup}
use Rattle.indexmap.proofs.CallerLemmas.{insert_entry-new}
use Rattle.co_state.specs.Table.{put}
use Rattle.co_plain.specs.Sessions.{begun_by}
use Rattle.co_session.specs.Clients.{is_used, with_begun}
use Rattle.co_session.proofs.Tables.{looked, rewritten, none_from, keys_more, unused_absent}
use Rattle.co_session.proofs.sessions.Sessions.begin.Goals as goal

pub returns-clause-ok : goal.returns-clause-ok
returns-clause-ok c =
    let es = c.self.inside.begun.entries in
    let client = begun_by c.args.by in
    let absent : lookup (nat_eq c.args.t) es ≡ None =
    sym (looked es c.args.t) ∙ none_from (unused_absent _ _ (ap (λ x. is_used x c.args.t) c.self.view_is ∙ c.requires.unused)) in
    let table = rewritten es c.insert.new.self.entries c.args.t c.begun.result c.in_ok-insert.ensures.updates.0 in
    let order : keys_of c.insert.new.self.entries ≡ keys_of es ++ c.args.t ∷ [] =
    ap keys_of (c.in_ok-insert.ensures.entries ∙ insert_entry-new nat_eq c.self.inside.begun c.args.t c.begun.result absent)
    ∙ keys_more es c.args.t c.begun.result in
    (λ i. record {
      sessions = (table ∙ ap (put (from_entries es) c.args.t) c.begun.ensures) i;
      begun = order i;
      used = c.self.inside.used;
    })
    ∙ ap (λ x. with_begun x c.args.t c.args.by) c.self.view_is

use Rattle.std.proofs.Common.{ℕ, Bool, not, ◌&&◌, sym, ap, ◌∙◌}
use Rattle.std.specs.Prelude.{◌==◌}
use Rattle.std.specs.FinMap.{get}
use Rattle.co_state.specs.Table.{lesser}
use Rattle.co_index.specs.Holding.{first_voted, first_other}
use Rattle.co_index.specs.Touching.{or_nobody}
use Rattle.co_index.proofs.Walking.{none_left, none_there}
use Rattle.co_index.proofs.index.Index.by_key.Goals as goal

pub returns-in-Some : goal.returns-in-Some
returns-in-Some c =
    c.first_marked.ensures
    ∙ ap (λ o. lesser o (first_voted c.args.t c.in-Some.writers.now)) (c.lesser-least.ensures ∙ ap (lesser c.args.found) c.first_reader.ensures)
    ∙ ap (λ o. lesser (lesser c.args.found (first_other c.args.t (or_nobody (get c.args.self.now.readers c.args.key.now)))) (first_voted c.args.t (or_nobody o))) c.in-Some.ensures

pub returns-in-None : goal.returns-in-None
returns-in-None c =
    let t = c.args.t in
    let least = lesser c.args.found (first_other t (or_nobody (get c.args.self.now.readers c.args.key.now))) in
    c.lesser-least.ensures ∙ ap (lesser c.args.found) c.first_reader.ensures
    ∙ sym (none_left least)
    ∙ ap (lesser least) (sym (none_there (λ (u : ℕ) (voted : Bool). voted && not (u == t))))
    ∙ ap (λ o. lesser least (first_voted t (or_nobody o))) c.in-None.ensures

use Rattle.std.proofs.Common.{◌≡◌, ℕ, ◌-◌, ◌≤◌, List, false, length, sym, ap, ◌∙◌, arith}
use Rattle.std.specs.Option.{is_some}
use Rattle.std.specs.Ordering.{nat_cmp}
use Rattle.std.specs.FinMap.{get-empty}
use Rattle.std.proofs.lemmas.List.{get_or_past}
use Rattle.co_state.specs.Table.{no_entries, holds}
use Rattle.co_plain.specs.MemberView.{Numbers}
use Rattle.co_durable.specs.Laying.{seen_by}
use Rattle.co_durable.proofs.laying.is_decided.Goals as goal

-- a coordinator past the last has no commits
none_past : (seen : List Numbers) (c i t : ℕ) → i ≡ c - 1 → length seen ≤ i → false ≡ holds (seen_by seen c) t
none_past seen c i t is h =
    sym (ap (λ (n : Numbers). holds n t) (get_or_past seen (c - 1) no_entries (omega (arith, is, h))) ∙ ap is_some (get-empty nat_cmp t))

pub returns-in-None : goal.returns-in-None
returns-in-None c = none_past c.args.seen.now c.args.coord c.saturating_sub.result c.args.t (c.saturating_sub.ensures ∙ ap (λ n. n - 1) c.from.ensures) c.in-None.ensures.lookup.3

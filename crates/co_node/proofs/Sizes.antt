-- What would make a log file too long does so by the records of the plain log too.
use Rattle.std.proofs.Common.{◌≡◌, ℕ, ◌<◌, ◌≤◌, List, [], ◌∷◌, ◌++◌, length, true, sym, ap, subst, ◌∙◌, inl, inr, arith}
use Rattle.std.specs.Prelude.{reverse, slice_get}
use Rattle.std.proofs.lemmas.Bool.{cases_lt}
use Rattle.std.proofs.lemmas.List.{length-append, reverse-append}
use Rattle.co_base.specs.declared.node.Node.{Node}
use Rattle.co_base.specs.Limits.{most_log_bytes}
use Rattle.co_record.specs.declared.record.Record.{Record}
use Rattle.co_record.specs.declared.record.Record.TheVariants.{Header}
use Rattle.co_log.specs.Appending.{IsTooLong}
use Rattle.co_log.specs.LogFile.{EndsIn}
use Rattle.co_log.specs.LogView.{LogView}
use Rattle.co_log.specs.Sizes.{log_bytes}
use Rattle.co_log.specs.Spare.{IsOverfull, filling}
use Rattle.co_log.proofs.Ordered.{filled_records}
use Rattle.co_log.proofs.Sizes.{forced_overlong, filled_overlong}
use Rattle.co_plain.specs.LogWrite.{generation_in, generation_of, with_batch}
use Rattle.co_plain.specs.Numbers.{next_generation}
use Rattle.co_plain.specs.declared.log_state.LogState.{LogState}
use Rattle.co_node.specs.NodeLog.{RepresentsLog}
use Rattle.co_node.specs.Sizes.{IsOverlong}
use Rattle.co_node.specs.Writes.{filled_with}
use Rattle.co_node.proofs.Standing.{filled_newest, generation_is, generation_within, next_is, next_newest}

-- the waiting records and these behind them, the oldest first, are forced
pub forced_is_overlong : (owner : Node) (log : LogView) (l : LogState) (forced : List Record) → RepresentsLog owner log l → 1 ≤ length forced → IsTooLong log.gate (log.waiting ++ forced) → IsOverlong (with_batch l (reverse forced)).stable
forced_is_overlong owner log l forced s some long =
    let ends = subst (λ (v : ℕ). EndsIn v log.current.state.stable log.gate s.items) s.latest s.ordered.live.ends in
    let many : 1 ≤ length (log.waiting ++ forced) = omega (arith, length-append log.waiting forced, some) in
    inl (subst (λ (rs : List Record). most_log_bytes < log_bytes rs) (next_newest owner log l forced s) (forced_overlong log.current.state.stable log.gate s.items (log.waiting ++ forced) ends many long))

-- behind the last generation the next one stands still
filled_last : (owner : Node) (log : LogView) (l : LogState) (records : List Record) → RepresentsLog owner log l → log.generation ≡ 4294967295 → generation_of (filled_with owner l records) ≡ 4294967295
filled_last owner log l records s last =
    let next = next_generation (generation_of l.stable) in
    let header : generation_of (filled_with owner l records) ≡ next = ap (λ (rs : List Record). generation_in (slice_get rs 0)) (reverse-append records (Header owner next ∷ [])) in
    header ∙ ap next_generation (generation_is owner log l s ∙ last)

-- the spare is filled with these records, the oldest first, behind a header of the next generation
pub filled_is_overlong : (owner : Node) (log : LogView) (l : LogState) (items : List Record) → RepresentsLog owner log l → IsOverfull log items → IsOverlong (filled_with owner l (reverse items))
filled_is_overlong owner log l items s (inr last) = inr (filled_last owner log l (reverse items) s last)
filled_is_overlong owner log l items s (inl long) = elim (cases_lt log.generation 4294967295) [
  | inl below ↦ (
      let next = next_is owner log l s (λ last. omega (arith, below, last)) in
      let newest = ap reverse (sym (filled_records true log s.items items)) ∙ filled_newest owner log l items s next in
      inl (subst (λ (rs : List Record). most_log_bytes < log_bytes rs) newest (filled_overlong (filling log items) (omega arith) long))
      )
  | inr above ↦ (
      let bound = generation_within log.node log.version log.generation 0 s.ordered.live.ends.batches s.items s.ordered.header s.ordered.live.ends.holds in
      inr (filled_last owner log l (reverse items) s (omega (arith, above, bound)))
      )
]

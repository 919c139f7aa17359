-- That a part of the voting rule is needed: a run in which one vote leaves it out, and nothing else, does not read serially.
use Rattle.std.specs.Prelude.{ℕ, true, false, ◌≡◌, ◌≢◌, List, []}
use Rattle.co_base.specs.declared.head.Kind.{Kind}
use Rattle.co_message.specs.declared.message.Message.TheVariants as message
use Rattle.co_state.specs.declared.verdict.Verdict.TheVariants.{VoteYes}
use Rattle.co_state.specs.VotingRule.{vote_of}
use Rattle.co_plain.specs.Federation.{Federation}
use Rattle.co_plain.specs.Invariants.{ReadsAreSerial}
use Rattle.co_plain.specs.Moves.{Move, Cast, GuardsHold, all_effects, effect}
use Rattle.co_plain.specs.Opening.{opened}
use Rattle.co_plain.specs.Wire.{was_sent}
use Rattle.co_law_minimal.specs.Rule.{RulePart, vote_without}

-- a federation of one coordinator over logs in which nothing was written
abbrev pub fresh : List Kind → Federation
fresh kinds = opened kinds 1 (λ m. record { records = []; spare_closed = false }) (λ c. record { records = []; spare_closed = false })

-- Before the vote and after it every move is as it must be; the vote itself is asked for, and the rule says no to it, but yes where
-- this part is left out.
pub record IsNeeded (left : RulePart) : Type 0 where
  pub kinds : List Kind
  pub before : List Move
  pub t : ℕ
  pub m : ℕ
  pub count : ℕ
  pub after : List Move
  pub guarded : GuardsHold before (fresh kinds)
  pub asked : was_sent (all_effects before (fresh kinds)).sent (message.Prepare t 1 m count) ≡ true
  pub against : vote_of ((all_effects before (fresh kinds)).member m).engine t count ≢ VoteYes
  pub without : vote_without left ((all_effects before (fresh kinds)).member m).engine t count ≡ VoteYes
  pub goes_on : GuardsHold after (effect (all_effects before (fresh kinds)) (Cast t m 1 count))
  pub unserial : ¬ (ReadsAreSerial (all_effects after (effect (all_effects before (fresh kinds)) (Cast t m 1 count))))

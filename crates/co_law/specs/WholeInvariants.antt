-- The invariants whole, in one place.
use Rattle.std.specs.Prelude.{ℕ, true, ◌≡◌, List, length}
use Rattle.co_base.specs.declared.head.Kind.{Kind}
use Rattle.co_message.specs.declared.message.Message.TheVariants as message
use Rattle.co_record.specs.declared.record.Record.TheVariants as log
use Rattle.co_state.specs.Table.{look}
use Rattle.co_plain.specs.Numbers.{has_number}
use Rattle.co_plain.specs.Wire.{was_sent}
use Rattle.co_plain.specs.Federation.{Federation}
use Rattle.co_plain.specs.Decisions.{votes_for, IsPresumedAborted}
use Rattle.co_plain.specs.Invariants.{Side, view}
use Rattle.co_plain.specs.CoordInvariants.{IsOneOf}
use Rattle.co_plain.specs.AllInvariants.{AllInvariants}
use Rattle.co_law_node.specs.WholeNodes.{AreWhole}
use Rattle.co_law.specs.MessageHomes.{MessagesNameHomes}

-- Unless it is presumed aborted, who was asked to prepare, is voted, or was asked about, is named by every commit record of its
-- transaction at its coordinator, ended or not, of this run or of the opened file.
pub record AskedAreNamed (s : Federation) : Type 0 where
  pub prepared : (t c m n : ℕ) (members : List ℕ) → was_sent s.sent (message.Prepare t c m n) ≡ true → ¬ (IsPresumedAborted s t) →
      IsOneOf (log.Commit t members) (s.coord c).log.stable → has_number members m ≡ true
  pub voted : (t c m : ℕ) (side : Side) (members : List ℕ) → votes_for (look (view side (s.member m)).voted t) c ≡ true → ¬ (IsPresumedAborted s t) →
      IsOneOf (log.Commit t members) (s.coord c).log.stable → has_number members m ≡ true
  pub questioned : (t m c : ℕ) (members : List ℕ) → was_sent s.sent (message.Ask t m c) ≡ true → ¬ (IsPresumedAborted s t) →
      IsOneOf (log.Commit t members) (s.coord c).log.stable → has_number members m ≡ true

-- What every state of a run keeps over sound logs of the federation's own nodes that the grammars allow: all invariants, that every
-- message names the coordinator of its transaction, that every commit record names who was asked about it, and that nodes are whole.
pub record AreKeptWhole (kinds : List Kind) (coords : ℕ) (s : Federation) : Type 0 where
  pub invariants : AllInvariants s
  pub homes : MessagesNameHomes s
  pub named : AskedAreNamed s
  pub nodes : AreWhole (length kinds) coords s

-- What each event of a coordinator leaves: it stands for a plain one that is whole and writable again.
use Rattle.std.proofs.Common.{◌≡◌, ℕ, Bool, true, false, List, sym, subst, ◌∙◌, arith}
use Rattle.co_base.specs.declared.part.Part.{Part}
use Rattle.co_base.specs.Limits.{most_coordinators}
use Rattle.co_message.specs.declared.message.Message.{Message}
use Rattle.co_message.specs.declared.message.Message.TheVariants as message
use Rattle.co_outside.specs.declared.home_memory.HomeMemory.{HomeMemory}
use Rattle.co_plain.specs.Coordinator.{coord_deliver}
use Rattle.co_plain.specs.declared.coord_state.CoordState.{CoordState}
use Rattle.co_plain.specs.declared.coord_step.CoordStep.{CoordStep as PlainStep}
use Rattle.co_law_node.proofs.CoordLaws.{coord_stays_whole}
use Rattle.co_law_node.proofs.WritableCoords.{coord_stays}
use Rattle.co_law_node.specs.WholeCoords.{CoordStays, CoordStaysWhole, IsWholeCoord}
use Rattle.co_plain.specs.Numbers.{IsAmong}
use Rattle.co_law_node.specs.Writable.{CoordStaysWritable, IsWritableCoord}
use Rattle.co_coord.specs.Standing.{is_up, HasDone, IsSame}
use Rattle.co_coord.specs.declared.coord.Coord.{Coord}
use Rattle.co_coord.specs.declared.step.CoordStep.{CoordStep}
use Rattle.co_coord_tests.specs.Played.{IsHeldIn, IsPlayed}

-- a message of a member to the coordinator; it answers other ones and goes on
pub delivered : (Keeps : CoordState → Type 0) (MayName : List Part → Type 0) (c : ℕ) (y : CoordState) → CoordStays Keeps MayName c y → Keeps y → (m : Message) → y.up ≡ true → Keeps (coord_deliver c y m).state
delivered Keeps MayName c y laws keeps (message.Vote t m coord granted) up = laws.vote t m granted up
delivered Keeps MayName c y laws keeps (message.Ask t m coord) up = laws.question t m
delivered Keeps MayName c y laws keeps (message.Ack t m coord) up = laws.acknowledgement t m up
delivered Keeps MayName c y laws keeps (message.Prepare t coord m count) up = keeps
delivered Keeps MayName c y laws keeps (message.Decide t coord m commit) up = keeps

module _ (home : HomeMemory) (x : Coord) (p : IsPlayed home x) where
  pub whole_laws : CoordStaysWhole 3 x.number p.plain
  whole_laws = coord_stays_whole 3 x.number p.plain p.whole

  pub writable_laws : CoordStaysWritable 3 x.number p.plain
  writable_laws = coord_stays 3 x.number p.plain (omega arith) p.own p.whole p.writable

  pub plain_up : is_up x ≡ true → p.plain.up ≡ true
  plain_up up = p.stands.up ∙ up

  -- behind an event
  pub played : (after : HomeMemory) (new : Coord) (step : PlainStep) (d : CoordStep) → IsSame x new → IsHeldIn after new.log → HasDone step d new → IsWholeCoord 3 step.state → IsWritableCoord x.number step.state → IsPlayed after new
  played after new step d same held done whole writable =
      record {
        members = same.members ∙ p.members;
        own = subst (λ c. IsAmong c most_coordinators) (sym same.number) p.own;
        held = held;
        plain = step.state;
        stands = done.state;
        whole = whole;
        writable = subst (λ (c : ℕ). IsWritableCoord c step.state) (sym same.number) writable;
      }

  -- behind one that left the log
  pub played_quietly : (new : Coord) (step : PlainStep) (d : CoordStep) → IsSame x new → new.log ≡ x.log → HasDone step d new → IsWholeCoord 3 step.state → IsWritableCoord x.number step.state → IsPlayed home new
  played_quietly new step d same log done whole writable = played home new step d same (subst (IsHeldIn home) (sym log) p.held) done whole writable

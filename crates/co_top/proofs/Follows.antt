-- One more line is followed, or none is, and what a reader sees then.
use Rattle.std.proofs.Common.{◌≡◌, ℕ, suc, ◌+◌, ◌-◌, List, [], length, Option, None, Some, Ok}
use Rattle.co_base.specs.declared.head.Head.{Head}
use Rattle.co_base.specs.declared.head.Kind.{Kind}
use Rattle.co_message.specs.declared.event.Event.{Event}
use Rattle.co_outside.specs.Home.{HomeView}
use Rattle.co_plain.specs.Federation.{Federation}
use Rattle.co_plain.specs.Runs.{run, lines}
use Rattle.co_plain.specs.Step.{step_line}
use Rattle.co_replay.specs.Schedule.{HasLine}
use Rattle.co_schedule.specs.declared.lines.Lines.{Lines}
use Rattle.co_state.specs.declared.engine_state.EngineState.{EngineState}
use Rattle.co_world.specs.declared.world.World.{World}
use Rattle.co_top.specs.Following.{IsFollowed}
use Rattle.co_top.specs.Front.{HasRead}
use Rattle.co_top.specs.Heads.{IsEventRead}
use Rattle.co_top.specs.Played.{IsStreamedBehind}
use Rattle.co_top.specs.Sights.{SeesIf, SeesNextIf}
use Rattle.co_top.specs.Telling.{IsToldOf}
use Rattle.co_top.specs.declared.reader.Ask.{Ask}
use Rattle.co_top.specs.declared.reader.Looked.{Looked}
use Rattle.co_top.proofs.Plays.{IsPlaying, IsReadBehind, plays_on, plays_out, run_one}
use Rattle.co_top.proofs.Sights.{sees_next_if}

module _ {E : Type 0} (takes : Kind → Type 0) (stands_for : E → EngineState → Type 0) (head : Head) (s0 : Federation) (text : Option (List ℕ)) (held told : Option (List ℕ)) (home : HomeView) (w : World E) (number : ℕ) (reader : Lines) (ahead : Option (List ℕ))
    (p : IsPlaying takes stands_for head s0 text held told home w number reader ahead) where
  -- one more line was followed
  pub follows_on : (e : Event) (line : HasLine head e) (left_after told_after : Option (List ℕ)) (home_after : HomeView) (w_after : World E) (reader_after : Lines) → IsReadBehind head text p.done.events p.done.left left_after e →
      HasRead (suc (suc (length p.done.events))) reader_after → IsToldOf takes stands_for (run (lines p.done.events) s0) (length p.done.events + 2) e told told_after home_after w_after (Ok tt) →
      (members : ℕ) (ask : Option Ask) (before seen : Looked) → SeesIf members s0 p.done.events ask before → SeesNextIf number (step_line (run (lines p.done.events) s0) e).state ask before seen →
      (q : IsPlaying takes stands_for head s0 text held told_after home_after w_after (number + 1) reader_after left_after) × SeesIf members s0 q.done.events ask seen
  unfolding plays_on
  follows_on e line left_after told_after home_after w_after reader_after read has o members ask before seen h n = (
    plays_on takes stands_for head s0 text held told home w number reader ahead p e line left_after told_after home_after w_after reader_after read has o,
    sees_next_if s0 p.done.events e members ask (step_line (run (lines p.done.events) s0) e).state (run_one p.done.events e s0) number p.counted before seen h n,
  )

module _ {E : Type 0} (takes : Kind → Type 0) (stands_for : E → EngineState → Type 0) (head : Head) (s0 : Federation) (text : Option (List ℕ)) (home : HomeView) (w : World E) (number : ℕ) (reader : Lines) (ahead : Option (List ℕ))
    (p : IsPlaying takes stands_for head s0 text None None home w number reader ahead) where
  -- there is no further line
  pub followed_out : (now : Option (List ℕ)) → IsStreamedBehind head text now p.done.events p.done.left → (after : Option (List ℕ)) → ((t : List ℕ) → ahead ≡ Some t → IsEventRead head (length p.done.events) t after (Ok None)) →
      (ask : Option Ask) (seen : Looked) → SeesIf (length head.kinds) s0 p.done.events ask seen → IsFollowed takes stands_for head s0 text now home w ask seen (Ok (number - 1))
  unfolding plays_out
  followed_out now streamed after f ask seen h = (plays_out takes stands_for head s0 text None None home w number reader ahead p now streamed after f, h)

-- What a reader comes to over a whole schedule, and what is written of it.
use Rattle.std.specs.Prelude.{ℕ, ◌≡◌, List, [], ◌∷◌, ◌++◌, codes, length}
use Rattle.co_base.specs.declared.reply.Reply.TheVariants as reply
use Rattle.co_law_snapshot.specs.Snapshot.{AreSnapshotsOf}
use Rattle.co_schedule.specs.Words.{Word, spaced}
use Rattle.co_transcript.specs.Spelling.{reply_words}
use Rattle.co_top.specs.Following.{RanFresh, FollowsAs}
use Rattle.co_top.specs.Ran.{start_of, end_of}
use Rattle.co_top.specs.Sights.{Sees, state_behind}
use Rattle.co_top.specs.Views.{SourceView, SinkView}
use Rattle.co_top.specs.declared.reader.Ask.{Ask}
use Rattle.co_top.specs.declared.reader.Looked.{Looked}
use Rattle.co_top.specs.declared.reader.Looked.TheVariants as looked
use Rattle.co_top.specs.declared.status.Status.{Status}

-- Every line of the input was done over fresh logs, and this is what the reader came to. What each member had installed behind the line that it asks for are the records of the serial run, in decision order,
-- of exactly the transactions that the member had installed by then.
pub record LookedAfter (input : List ℕ) (ask : Ask) (seen : Looked) : Type 0 where
  pub fresh : RanFresh input
  pub whole : fresh.ran.rest ≡ []
  pub sees : Sees (length fresh.ran.head.kinds) (start_of fresh.ran) fresh.ran.events ask seen
  pub serial : AreSnapshotsOf (end_of fresh.ran) (state_behind (start_of fresh.ran) fresh.ran.events ask.line)

-- the reader came to something
abbrev pub HasLooked : Ask → List ℕ → Type 0
HasLooked ask input = (seen : Looked) × LookedAfter input ask seen

-- the words of what it came to: rows are told as the reply of a scan is
abbrev pub looked_words : Looked → List Word
looked_words looked.NoMember = codes "no" ∷ codes "member" ∷ []
looked_words looked.Unopened = codes "unopened" ∷ []
looked_words looked.NotMv = codes "not" ∷ codes "mv" ∷ []
looked_words looked.Down = codes "down" ∷ []
looked_words looked.Lost = codes "lost" ∷ []
looked_words (looked.Rows rows) = reply_words (reply.Rows rows)

-- their line
abbrev pub looked_text : Looked → List ℕ
looked_text seen = spaced (looked_words seen) ++ 10 ∷ []

abbrev pub text_of_looked : (ask : Ask) (input : List ℕ) → HasLooked ask input → List ℕ
text_of_looked ask input h = looked_text h.0

-- the command `look`
abbrev pub LooksAs : Ask → SourceView → SourceView → SinkView → SinkView → Status → Type 0
LooksAs ask = FollowsAs (HasLooked ask) (text_of_looked ask)

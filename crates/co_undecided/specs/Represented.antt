-- For which states the undecided transactions of a member stand: their engine does, the index tells what each of them read and wrote and
-- whether it has voted, and each has its entry. No transaction is active and voted at once, and marks are on active ones.
use Rattle.std.specs.Prelude.{ℕ, ◌≡◌, List, None}
use Rattle.co_base.specs.declared.head.Kind.{Kind}
use Rattle.co_pairs.specs.declared.prepared.Prepared.{Prepared}
use Rattle.co_pairs.specs.Votes.{votes_of}
use Rattle.co_serial.specs.Records.{Records}
use Rattle.co_state.specs.declared.engine_state.EngineState.{EngineState}
use Rattle.co_state.specs.Effects.{restored}
use Rattle.co_state.specs.Table.{Table, look}
use Rattle.co_index.specs.declared.index.Index.{Index}
use Rattle.co_index.specs.Indexed.{IsIndexOf, AreApart}
use Rattle.co_plain.specs.declared.member_state.AskedMark.{AskedMark}
use Rattle.co_undecided.specs.declared.entry.Entry.{Entry}
use Rattle.co_undecided.specs.declared.undecideds.Undecideds.{Undecideds}
use Rattle.co_undecided.specs.Kept.{entry_at, entry_of, kept_in}

pub record Represents {E : Type 0} (stands_for : E → EngineState → Type 0) (u : Undecideds E) (b : EngineState) (asked : Table AskedMark) : Type 0 where
  pub engine : stands_for u.engine b
  pub index : IsIndexOf u.index b
  pub entries : (t : ℕ) → look u.entries t ≡ entry_at b asked t
  pub apart : AreApart b
  pub marks : (t : ℕ) → look b.active t ≡ None → look asked t ≡ None

-- the index and the entries of these votes alone
pub record HaveEntered (index : Index) (es : Table Entry) (ps : List Prepared) : Type 0 where
  pub indexed : (kind : Kind) (records : Records) → IsIndexOf index (restored kind records (votes_of ps))
  pub entries : (t : ℕ) → look es t ≡ entry_of None (look (votes_of ps) t) None

-- how many operations of a transaction are kept
abbrev pub kept_at : {E : Type 0} → Undecideds E → ℕ → ℕ
kept_at u t = kept_in (look u.entries t)

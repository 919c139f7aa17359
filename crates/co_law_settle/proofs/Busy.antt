-- An exchange that can help is of a busy transaction.
use Rattle.std.proofs.Common.{◌≡◌, ℕ, true, Option, None, Some, refl}
use Rattle.std.specs.Option.{is_some}
use Rattle.std.proofs.lemmas.Bool.{or_left, or_right, and_parts}
use Rattle.co_state.specs.declared.engine_state.EngineState.{EngineState}
use Rattle.co_state.specs.Table.{look, holds}
use Rattle.co_plain.specs.declared.coord_state.Entry.{Entry}
use Rattle.co_plain.specs.declared.coord_state.Entry.TheVariants as entry
use Rattle.co_plain.specs.declared.member_state.AskedMark.{AskedMark}
use Rattle.co_plain.specs.Federation.{Federation}
use Rattle.co_plain.specs.Invariants.{Memory, view}
use Rattle.co_plain.specs.Quiet.{Exchange, Prepares, Votes, Commits, Asks, IsEnabled, lacks_yes, lacks_ack, free_where_asked, busy_in, IsBusy, BusyAt, BusyIn}
use Rattle.co_plain.specs.Settling.{exchange_txn}
use Rattle.co_law_base.proofs.Carrying.{votes_held}

collects : (o : Option Entry) (m : ℕ) → lacks_yes o m ≡ true → busy_in o ≡ true
collects None m h = h
collects (Some entry.Idle) m h = h
collects (Some (entry.Collecting parts yeses)) m h = refl
collects (Some (entry.Committed ms acks)) m h = refl

committed : (o : Option Entry) (m : ℕ) → lacks_ack o m ≡ true → busy_in o ≡ true
committed None m h = h
committed (Some entry.Idle) m h = h
committed (Some (entry.Collecting parts yeses)) m h = refl
committed (Some (entry.Committed ms acks)) m h = refl

asked : (b : EngineState) (t : ℕ) (o : Option AskedMark) → free_where_asked b t o ≡ true → is_some o ≡ true
asked b t None h = h
asked b t (Some mark) h = refl

pub enabled_busy : (s : Federation) (e : Exchange) → IsEnabled s e → IsBusy s (exchange_txn e)
enabled_busy s (Prepares t m c) h = BusyIn c h.1 (collects (look (s.coord c).table t) m (and_parts _ _ h.2).0)
enabled_busy s (Votes t m) h = BusyAt m h.0 (or_right (holds (s.member m).engine.voted t) _ (asked (s.member m).engine t (look (s.member m).asked t) (and_parts _ _ h.1).1))
enabled_busy s (Commits t m c) h = BusyIn c h.1 (committed (look (s.coord c).table t) m h.2)
enabled_busy s (Asks t m c) h = BusyAt m h.0 (or_left _ _ (votes_held (view Memory (s.member m)) t c (and_parts _ _ h.2).0))

-- The two files of a log, and those of all others.
use Rattle.std.proofs.Common.{◌≡◌, ◌≢◌, ℕ, refl, sym, ap, subst, ◌∙◌, arith, inl, inr}
use Rattle.std.specs.Prelude.{◌⊎◌, List, Option, None, Some, IsSome}
use Rattle.co_base.specs.declared.leaves.Stop.{Stop}
use Rattle.co_record.specs.declared.record.Record.{Record}
use Rattle.co_base.specs.Nodes.{IsValidNode, node_byte}
use Rattle.co_base.specs.declared.node.Node.{Node}
use Rattle.co_base.specs.declared.node.Node.TheVariants.{Member, Coord}
use Rattle.co_outside.specs.Home.{File, HomeView, Agrees, RestStays}
use Rattle.co_outside.specs.declared.spot.Spot.{Spot}
use Rattle.co_disk.specs.DiskModel.{read_of}
use Rattle.co_disk.specs.DiskView.{DiskView}
use Rattle.co_log.specs.LogView.{LogView, IsHeld, HasSpots, spot_of}
use Rattle.co_log.specs.Others.{NodeStays, OtherFilesStay, OtherNodesStay}

parts_apart : (node : Node) (p q : ℕ) → (p ≡ q → ⊥) → spot_of node p ≢ spot_of node q
parts_apart node p q other e = absurd (other (ap (λ (s : Spot). s.part) e))

-- what is so at both files of a node is so at each file of its log
pub at_each : (P : Spot → Type 0) (log : LogView) → HasSpots log → P (spot_of log.node 0) → P (spot_of log.node 1) → P log.current.spot × P log.spare.spot
at_each P log (inl own) a b = (subst P (sym own.0) a, subst P (sym own.1) b)
at_each P log (inr own) a b = (subst P (sym own.0) b, subst P (sym own.1) a)

-- and back
pub at_parts : (P : Spot → Type 0) (log : LogView) → HasSpots log → P log.current.spot → P log.spare.spot → P (spot_of log.node 0) × P (spot_of log.node 1)
at_parts P log (inl own) current spare = (subst P own.0 current, subst P own.1 spare)
at_parts P log (inr own) current spare = (subst P own.1 spare, subst P own.0 current)

-- the files of a log are two
pub spots_apart : (log : LogView) → HasSpots log → log.current.spot ≢ log.spare.spot
spots_apart log spots e = elim spots [
  | inl own ↦ absurd (parts_apart log.node 0 1 (λ h. omega (arith, h)) (sym own.0 ∙ e ∙ own.1))
  | inr own ↦ absurd (parts_apart log.node 1 0 (λ h. omega (arith, h)) (sym own.0 ∙ e ∙ own.1))
]

-- a log with the same node and the same files has them too
pub spots_moved : (log after : LogView) → after.node ≡ log.node → after.current.spot ≡ log.current.spot → after.spare.spot ≡ log.spare.spot → HasSpots log → HasSpots after
spots_moved log after node current spare spots = elim spots [
  | inl own ↦ inl (current ∙ own.0 ∙ ap (λ (n : Node). spot_of n 0) (sym node), spare ∙ own.1 ∙ ap (λ (n : Node). spot_of n 1) (sym node))
  | inr own ↦ inr (current ∙ own.0 ∙ ap (λ (n : Node). spot_of n 1) (sym node), spare ∙ own.1 ∙ ap (λ (n : Node). spot_of n 0) (sym node))
]

-- no other file is one of its two
pub not_current : (log : LogView) (s : Spot) → HasSpots log → s ≢ spot_of log.node 0 → s ≢ spot_of log.node 1 → s ≢ log.current.spot
not_current log s spots not_a not_b e = elim spots [ inl own ↦ absurd (not_a (e ∙ own.0)) | inr own ↦ absurd (not_b (e ∙ own.0)) ]

pub not_spare : (log : LogView) (s : Spot) → HasSpots log → s ≢ spot_of log.node 0 → s ≢ spot_of log.node 1 → s ≢ log.spare.spot
not_spare log s spots not_a not_b e = elim spots [ inl own ↦ absurd (not_b (e ∙ own.1)) | inr own ↦ absurd (not_a (e ∙ own.1)) ]

-- ---- other nodes

pub bytes_apart : (this that : Node) → IsValidNode this → IsValidNode that → node_byte this ≡ node_byte that → this ≡ that
bytes_apart (Member m) (Member n) one two e = ap Member e
bytes_apart (Member m) (Coord n) one two e = absurd (omega (arith, one.1, two.0, e))
bytes_apart (Coord m) (Member n) one two e = absurd (omega (arith, one.0, two.1, e))
bytes_apart (Coord m) (Coord n) one two e = ap Coord (let h : m ≡ n = omega (arith, e) in h)

-- no file is of two nodes
spot_elsewhere : (this that : Node) (p q : ℕ) → IsValidNode this → IsValidNode that → that ≢ this → spot_of that p ≢ spot_of this q
spot_elsewhere this that p q one two other e = absurd (other (bytes_apart that this two one (ap (λ (s : Spot). s.node) e)))

-- what one node does leaves the files of each other one
pub stays_elsewhere : (this that : Node) (old new : HomeView) → IsValidNode this → IsValidNode that → that ≢ this → OtherFilesStay this old new → NodeStays that old new
stays_elsewhere this that old new one two other stay =
    let away : (p q : ℕ) → spot_of that p ≢ spot_of this q = λ p q. spot_elsewhere this that p q one two other in
    record {
      file_a = stay.files (spot_of that 0) (away 0 0) (away 0 1);
      file_b = stay.files (spot_of that 1) (away 1 0) (away 1 1);
      reach_a = stay.reaches (spot_of that 0) (away 0 0) (away 0 1);
      reach_b = stay.reaches (spot_of that 1) (away 1 0) (away 1 1);
    }

agrees_on : (old new : HomeView) (spot : Spot) (bytes : List ℕ) → new.file spot ≡ old.file spot → new.reach spot ≡ old.reach spot → Agrees old spot bytes → Agrees new spot bytes
agrees_on old new spot bytes same still agrees = record { told = λ f is. agrees.told f (sym same ∙ is); room = omega (arith, agrees.room, still) }

-- what leaves the files of a log keeps it held
pub held_stays : (old new : HomeView) (log : LogView) → NodeStays log.node old new → IsHeld old log → IsHeld new log
held_stays old new log stay held =
    let files = at_each (λ s. new.file s ≡ old.file s) log held.spots stay.file_a stay.file_b in
    let reaches = at_each (λ s. new.reach s ≡ old.reach s) log held.spots stay.reach_a stay.reach_b in
    record {
      spots = held.spots;
      current = agrees_on old new log.current.spot (read_of log.current.state) files.0 reaches.0 held.current;
      spare = agrees_on old new log.spare.spot (read_of log.spare.state) files.1 reaches.1 held.spare;
    }

-- a log whose spare was written is held, whatever waits and is armed
pub spare_held : (old new : HomeView) (log : LogView) (disk : DiskView) (waiting : List Record) (stop : Option Stop) → IsHeld old log → disk.spot ≡ log.spare.spot → RestStays log.spare.spot old new → Agrees new log.spare.spot (read_of disk.state)
    → IsHeld new (record log { spare = disk; waiting = waiting; stop = stop })
spare_held old new log disk waiting stop held at rest agrees =
    let apart = spots_apart log held.spots in
    record {
      spots = subst (λ (s : Spot). ((log.current.spot ≡ spot_of log.node 0) × (s ≡ spot_of log.node 1)) ⊎ ((log.current.spot ≡ spot_of log.node 1) × (s ≡ spot_of log.node 0))) (sym at) held.spots;
      current = agrees_on old new log.current.spot (read_of log.current.state) (rest.others.files log.current.spot apart) (rest.others.reaches log.current.spot apart) held.current;
      spare = subst (λ (s : Spot). Agrees new s (read_of disk.state)) (sym at) agrees;
    }

pub held_elsewhere : (node : Node) (old new : HomeView) (log : LogView) → IsValidNode node → IsValidNode log.node → log.node ≢ node → OtherFilesStay node old new → IsHeld old log → IsHeld new log
held_elsewhere node old new log one two other stay held = held_stays old new log (stays_elsewhere node log.node old new one two other stay) held

-- a call on one file leaves each told
still_told : (spot : Spot) (old new : HomeView) → RestStays spot old new → (s : Spot) → new.file s ≡ None → old.file s ≡ None
still_told spot old new rest s none = by (old.file s) refl
  where
    by : (o : Option File) → old.file s ≡ o → old.file s ≡ None
    by None is = is
    by (Some f) is =
        let here : s ≢ spot = λ e. let some = rest.told f (sym (ap old.file e) ∙ is) in let gone : new.file spot ≡ None = sym (ap new.file e) ∙ none in cc in
        let away = rest.others.files s here in
        absurd (cc)

module _ (log : LogView) (spots : HasSpots log) where
  -- a call on one of its two files leaves all other nodes
  pub current_only : (old new : HomeView) → RestStays log.current.spot old new → OtherNodesStay log.node old new
  current_only old new rest = record {
    others = record { files = λ s a b. rest.others.files s (not_current log s spots a b); reaches = λ s a b. rest.others.reaches s (not_current log s spots a b) };
    told = still_told log.current.spot old new rest;
    directory = rest.others.directory;
    count = rest.count;
  }

  pub spare_only : (old new : HomeView) → RestStays log.spare.spot old new → OtherNodesStay log.node old new
  spare_only old new rest = record {
    others = record { files = λ s a b. rest.others.files s (not_spare log s spots a b); reaches = λ s a b. rest.others.reaches s (not_spare log s spots a b) };
    told = still_told log.spare.spot old new rest;
    directory = rest.others.directory;
    count = rest.count;
  }

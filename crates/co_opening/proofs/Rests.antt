-- Calls on the logs of a federation, one after another.
use Rattle.std.proofs.Common.{◌≡◌, ◌≢◌, ℕ, suc, ◌≤◌, ◌⊎◌, Bool, true, false, eqb, List, [], refl, sym, ap, subst, ◌∙◌, inl, inr, arith}
use Rattle.std.proofs.lemmas.Bool.{eqb-true, eqb-false}
use Rattle.std.specs.Prelude.{Option, Some, Result, Ok, Err}
use Rattle.co_base.specs.Limits.{most_coordinators, most_log_bytes, most_members}
use Rattle.co_base.specs.Nodes.{IsValidNode}
use Rattle.co_base.specs.declared.mark.Mark.{Mark}
use Rattle.co_base.specs.declared.node.Node.{Node}
use Rattle.co_base.specs.declared.node.Node.TheVariants.{Member, Coord}
use Rattle.co_frame.specs.LogText.{IsLogText}
use Rattle.co_log.proofs.Spots.{current_only, stays_elsewhere}
use Rattle.co_log.specs.Attaching.{IsWithin}
use Rattle.co_log.specs.Calls.{HasMade}
use Rattle.co_disk.specs.DiskModel.{DiskState, laid_over, read_of}
use Rattle.co_log.specs.Current.{HaveNoBatch, IsCurrentMade, IsMadeCurrent}
use Rattle.co_log.specs.Fresh.{IsFresh, header_alone}
use Rattle.co_log.specs.LogView.{LogView, IsHeld, HasSpots, spot_of}
use Rattle.co_log.specs.NodeFiles.{Items, HasRecordsIn}
use Rattle.co_log.specs.Others.{NodeStays, OtherNodesStay}
use Rattle.co_log.specs.declared.fault.LogFault.{LogFault}
use Rattle.co_log.specs.declared.fault.LogFault.TheVariants.{Device, Stopped, Bad, Differs, Full, InUse, Memory}
use Rattle.co_node.proofs.Homes.{AreToldOf, both_within, node_within, old_records, told_of}
use Rattle.co_node.specs.Answers.{AreTold, AreWithin}
use Rattle.co_durable.specs.Reading.{OnlyReads}
use Rattle.co_outside.specs.Home.{File, HomeView}
use Rattle.co_outside.specs.declared.spot.Spot.{Spot}
use Rattle.co_record.specs.Format.{newest}
use Rattle.co_opening.proofs.Stays.{others_still}
use Rattle.co_opening.specs.Kept.{IsOwnLog}
use Rattle.co_opening.specs.Rest.{IsSpotOf, OnlyOwnChange, OnlyOwnFilesChange, IsFoundOrMade, OnlyOneIsMade, AreFoundOrMade, OnlyOpens}
use Rattle.co_schedule.specs.View.{IsNode}

module _ (members coords : ℕ) where
  none_changed : (file : Spot → Option File) → OnlyOwnChange members coords file file
  none_changed file = record { others = λ s apart. refl; told = λ s none. none }

  pub own_on : (old mid new : Spot → Option File) → OnlyOwnChange members coords old mid → OnlyOwnChange members coords mid new → OnlyOwnChange members coords old new
  own_on old mid new one two = record { others = λ s apart. two.others s apart ∙ one.others s apart; told = λ s none. one.told s (two.told s none) }

  own_changes : (owner : Node) (old new : HomeView) → IsNode members coords owner → OtherNodesStay owner old new → OnlyOwnChange members coords old.file new.file
  own_changes owner old new own stay = record { others = λ s apart. stay.others.files s (λ e. apart (owner, own, inl e)) (λ e. apart (owner, own, inr e)); told = stay.told }

  pub unchanged : (home : HomeView) → OnlyOwnFilesChange members coords home home
  unchanged home = record { files = none_changed home.file; directory = refl }

  pub changes_on : (old mid new : HomeView) → OnlyOwnFilesChange members coords old mid → OnlyOwnFilesChange members coords mid new → OnlyOwnFilesChange members coords old new
  changes_on old mid new one two = record { files = own_on old.file mid.file new.file one.files two.files; directory = two.directory ∙ one.directory }

  -- what one of its nodes does
  pub node_changes : (owner : Node) (old new : HomeView) → IsNode members coords owner → OtherNodesStay owner old new → OnlyOwnFilesChange members coords old new
  node_changes owner old new own stay = record { files = own_changes owner old new own stay; directory = stay.directory }

-- ---- a log is made

-- files without a batch have no records
none_in : (file : Spot → Option File) (node : Node) (told : AreTold file node) → AreWithin file node → IsLogText told.a.bytes [] → IsLogText told.b.bytes [] → HasRecordsIn file node []
none_in file node told within a b = (
  0,
  record {
    a = told.a.bytes;
    b = told.b.bytes;
    told_a = λ f is. same told.is_a is;
    told_b = λ f is. same told.is_b is;
    within_a = within.a;
    within_b = within.b;
    current = inl (refl, refl, a, b);
  },
)
  where
    same : {x y : File} {o : Option File} → o ≡ Some x → o ≡ Some y → y.bytes ≡ x.bytes
    same one two = ap (λ (f : File). f.bytes) (let h : _ ≡ _ = injected (sym two ∙ one) in h)
      where
        injected : {x y : File} → Some x ≡ Some y → x ≡ y
        injected e = cc

-- so are those of a log, in either order
no_batch_in : (file : Spot → Option File) (log : LogView) → HasSpots log → AreWithin file log.node → (told : AreTold file log.node) → (of : AreToldOf file log) → IsLogText of.current.bytes [] → IsLogText of.spare.bytes [] → HasRecordsIn file log.node []
no_batch_in file log spots within told of c s = by spots
  where
    injected : {x y : File} → Some x ≡ Some y → x ≡ y
    injected e = cc

    by : HasSpots log → HasRecordsIn file log.node []
    by (inl own) =
        none_in file log.node told within (subst (λ (f : File). IsLogText f.bytes []) (injected (sym of.is_current ∙ ap file own.0 ∙ told.is_a)) c)
        (subst (λ (f : File). IsLogText f.bytes []) (injected (sym of.is_spare ∙ ap file own.1 ∙ told.is_b)) s)
    by (inr own) =
        none_in file log.node told within (subst (λ (f : File). IsLogText f.bytes []) (injected (sym of.is_spare ∙ ap file own.1 ∙ told.is_a)) s)
        (subst (λ (f : File). IsLogText f.bytes []) (injected (sym of.is_current ∙ ap file own.0 ∙ told.is_b)) c)

-- what a fresh disk gives has no batch
fresh_bytes : (disk : DiskState) (bytes : List ℕ) → disk.pending ≡ [] → bytes ≡ read_of disk → IsLogText disk.stable [] → IsLogText bytes []
fresh_bytes disk bytes still told none = subst (λ (t : List ℕ). IsLogText t []) (sym (told ∙ ap (laid_over disk.stable) still)) none

-- a fresh log had none
fresh_had_none : (home : HomeView) (log : LogView) → IsFresh log → IsOwnLog home log.node log → AreTold home.file log.node → HasRecordsIn home.file log.node []
fresh_had_none home log fresh own told =
    let held = own.kept.held in
    let of = told_of home.file log held.spots told in
    no_batch_in home.file log held.spots own.kept.within told of (fresh_bytes log.current.state of.current.bytes fresh.still (held.current.told of.current of.is_current) fresh.none)
    (fresh_bytes log.spare.state of.spare.bytes fresh.spare_still (held.spare.told of.spare of.is_spare) fresh.spare_none)

pub log_made : (log after : LogView) (old new : HomeView) (result : Result Mark LogFault) → IsFresh log → IsOwnLog old log.node log → HasMade log after old new result → OnlyOneIsMade log.node old new
log_made log after old new result fresh own did = record {
  stay = current_only log own.kept.held.spots old new did.rest;
  made = inr (fresh_had_none old log fresh own, λ told. let of = told_of new.file log own.kept.held.spots told in by told of result (did.current of.current of.spare of.is_current of.is_spare));
}
  where
    spots : HasSpots log
    spots = own.kept.held.spots

    none : (told : AreTold new.file log.node) (of : AreToldOf new.file log) → HaveNoBatch of.current.bytes of.spare.bytes → HasRecordsIn new.file log.node [] ⊎ HasRecordsIn new.file log.node (header_alone log.node)
    none told of h = inl (no_batch_in new.file log spots (node_within new.file log spots did.short) told of h.0 h.1)

    one : (of : AreToldOf new.file log) → IsMadeCurrent log of.current.bytes of.spare.bytes → HasRecordsIn new.file log.node [] ⊎ HasRecordsIn new.file log.node (header_alone log.node)
    one of h = inr (old_records new.file log newest 1 (header_alone log.node) spots did.short of h)

    by : (told : AreTold new.file log.node) (of : AreToldOf new.file log) (r : Result Mark LogFault) → IsCurrentMade log of.current.bytes of.spare.bytes r → HasRecordsIn new.file log.node [] ⊎ HasRecordsIn new.file log.node (header_alone log.node)
    by told of (Ok mark) h = one of h
    by told of (Err (Device spot)) (inl h) = none told of h
    by told of (Err (Device spot)) (inr h) = one of h
    by told of (Err (Stopped call stable marks)) h = absurd h
    by told of (Err (Bad spot at)) h = absurd h
    by told of (Err (Differs spot at kept read)) h = absurd h
    by told of (Err (Full spot)) h = absurd h
    by told of (Err (InUse spot)) h = absurd h
    by told of (Err Memory) h = none told of h

-- nothing is made
pub none_made : (node : Node) (home : HomeView) → OnlyOneIsMade node home home
none_made node home = record { stay = others_still node home; made = inl (λ s own. refl) }

-- ---- one node behind the other

made_later : (old mid new : Spot → Option File) (node : Node) → IsFoundOrMade old mid node → IsFoundOrMade mid new node → IsFoundOrMade old new node
made_later old mid new node (inl one) (inl two) = inl (λ s own. two s own ∙ one s own)
made_later old mid new node (inl one) (inr two) = inr (λ told. none_before told (two.0 (told_at told)), two.1)
  where
    told_at : AreTold old node → AreTold mid node
    told_at told = record { a = told.a; b = told.b; is_a = one (spot_of node 0) (inl refl) ∙ told.is_a; is_b = one (spot_of node 1) (inr refl) ∙ told.is_b }

    none_before : AreTold old node → HasRecordsIn mid node [] → HasRecordsIn old node []
    none_before told (part, h) = (
      part,
      record {
        a = h.a;
        b = h.b;
        told_a = λ f is. h.told_a f (one (spot_of node 0) (inl refl) ∙ is);
        told_b = λ f is. h.told_b f (one (spot_of node 1) (inr refl) ∙ is);
        within_a = subst (IsWithin most_log_bytes) (one (spot_of node 0) (inl refl)) h.within_a;
        within_b = subst (IsWithin most_log_bytes) (one (spot_of node 1) (inr refl)) h.within_b;
        current = h.current;
      },
    )
made_later old mid new node (inr one) (inl two) = inr (one.0, λ told. still (one.1 (told_at told)))
  where
    told_at : AreTold new node → AreTold mid node
    told_at told = record { a = told.a; b = told.b; is_a = sym (two (spot_of node 0) (inl refl)) ∙ told.is_a; is_b = sym (two (spot_of node 1) (inr refl)) ∙ told.is_b }

    again : (items : Items) → HasRecordsIn mid node items → HasRecordsIn new node items
    again items (part, h) = (
      part,
      record {
        a = h.a;
        b = h.b;
        told_a = λ f is. h.told_a f (sym (two (spot_of node 0) (inl refl)) ∙ is);
        told_b = λ f is. h.told_b f (sym (two (spot_of node 1) (inr refl)) ∙ is);
        within_a = subst (IsWithin most_log_bytes) (sym (two (spot_of node 0) (inl refl))) h.within_a;
        within_b = subst (IsWithin most_log_bytes) (sym (two (spot_of node 1) (inr refl))) h.within_b;
        current = h.current;
      },
    )

    still : HasRecordsIn mid node [] ⊎ HasRecordsIn mid node (header_alone node) → HasRecordsIn new node [] ⊎ HasRecordsIn new node (header_alone node)
    still (inl h) = inl (again [] h)
    still (inr h) = inr (again (header_alone node) h)
made_later old mid new node (inr one) (inr two) = inr (one.0, two.1)

-- a node is this one or another
same_or : (m n : ℕ) → (m ≡ n) ⊎ (m ≢ n)
same_or m n = by (eqb m n) refl
  where
    by : (b : Bool) → eqb m n ≡ b → (m ≡ n) ⊎ (m ≢ n)
    by true is = inl (eqb-true m n is)
    by false is = inr (eqb-false m n is)

node_or : (a b : Node) → (a ≡ b) ⊎ (a ≢ b)
node_or (Member m) (Member n) = elim (same_or m n) as (λ x. (Member m ≡ Member n) ⊎ (Member m ≢ Member n)) [ inl e ↦ inl (ap Member e) | inr other ↦ inr (λ e. other (let h : m ≡ n = member_number e in h)) ]
  where
    member_number : {p q : ℕ} → Member p ≡ Member q → p ≡ q
    member_number e = cc
node_or (Coord m) (Coord n) = elim (same_or m n) as (λ x. (Coord m ≡ Coord n) ⊎ (Coord m ≢ Coord n)) [ inl e ↦ inl (ap Coord e) | inr other ↦ inr (λ e. other (let h : m ≡ n = coord_number e in h)) ]
  where
    coord_number : {p q : ℕ} → Coord p ≡ Coord q → p ≡ q
    coord_number e = cc
node_or (Member m) (Coord n) = inr (λ e. absurd cc)
node_or (Coord m) (Member n) = inr (λ e. absurd cc)

module _ (members coords : ℕ) where
  none_made_of : (file : Spot → Option File) → AreFoundOrMade members coords file file
  none_made_of file = record { own = none_changed members coords file; made = λ n valid. inl (λ s is. refl) }

  pub files_made_on : (old mid new : Spot → Option File) → AreFoundOrMade members coords old mid → AreFoundOrMade members coords mid new → AreFoundOrMade members coords old new
  files_made_on old mid new one two = record { own = own_on members coords old mid new one.own two.own; made = λ n valid. made_later old mid new n (one.made n valid) (two.made n valid) }

  pub opens_none : (home : HomeView) → OnlyOpens members coords home home
  opens_none home = record { files = none_made_of home.file; directory = refl }

  pub opens_on : (old mid new : HomeView) → OnlyOpens members coords old mid → OnlyOpens members coords mid new → OnlyOpens members coords old new
  opens_on old mid new one two = record { files = files_made_on old.file mid.file new.file one.files two.files; directory = two.directory ∙ one.directory }

  -- calls that only read
  pub files_read : (old new : Spot → Option File) → ((s : Spot) → new s ≡ old s) → AreFoundOrMade members coords old new
  files_read old new same = record { own = record { others = λ s apart. same s; told = λ s none. sym (same s) ∙ none }; made = λ n valid. inl (λ s is. same s) }

  pub opens_read : (old new : HomeView) → OnlyReads old new → OnlyOpens members coords old new
  opens_read old new reads = record { files = files_read old.file new.file reads.files; directory = reads.directory }

  -- one node was opened
  opens_one : (owner : Node) (old new : HomeView) → IsNode members coords owner → IsValidNode owner → OnlyOneIsMade owner old new → OnlyOpens members coords old new
  opens_one owner old new own valid did = record { files = record { own = own_changes members coords owner old new own did.stay; made = λ n is. by n is (node_or n owner) }; directory = did.stay.directory }
    where
      by : (n : Node) → IsValidNode n → (n ≡ owner) ⊎ (n ≢ owner) → IsFoundOrMade old.file new.file n
      by n is (inl same) = subst (IsFoundOrMade old.file new.file) (sym same) did.made
      by n is (inr other) =
          let stay = stays_elsewhere owner n old new valid is other did.stay.others in
          inl (λ s at. elim at as (λ x. new.file s ≡ old.file s) [ inl e ↦ subst (λ (t : Spot). new.file t ≡ old.file t) (sym e) stay.file_a | inr e ↦ subst (λ (t : Spot). new.file t ≡ old.file t) (sym e) stay.file_b ])

  pub member_opened : (place : ℕ) (old mid new : HomeView) → suc place ≤ members → suc place ≤ most_members → OnlyOpens members coords old mid → OnlyOneIsMade (Member (suc place)) mid new → OnlyOpens members coords old new
  member_opened place old mid new own valid one did = opens_on old mid new one (opens_one (Member (suc place)) mid new (omega arith, own) (omega arith, valid) did)

  pub coord_opened : (place : ℕ) (old mid new : HomeView) → suc place ≤ coords → suc place ≤ most_coordinators → OnlyOpens members coords old mid → OnlyOneIsMade (Coord (suc place)) mid new → OnlyOpens members coords old new
  coord_opened place old mid new own valid one did = opens_on old mid new one (opens_one (Coord (suc place)) mid new (omega arith, own) (omega arith, valid) did)

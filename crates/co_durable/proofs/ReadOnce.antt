-- A directory that tells its files has one list of durable records or one fault of the files.
use Rattle.std.proofs.Common.{◌≡◌, inl, inr, ℕ, List, map, Option, Some, None, refl, sym, ap, subst, ◌∙◌, arith}
use Rattle.std.specs.List.{AllByRecursion}
use Rattle.std.specs.Prelude.{slice_get}
use Rattle.co_base.specs.declared.node.Node.{Node}
use Rattle.co_outside.specs.declared.spot.Spot.{Spot}
use Rattle.co_outside.specs.Home.{File}
use Rattle.co_disk.specs.DiskView.{DiskView}
use Rattle.co_record.specs.Format.{newest}
use Rattle.co_log.specs.Attaching.{built, IsAttached, IsBadPair, IsGood, AreTwins}
use Rattle.co_log.specs.LogView.{spot_of, LogView}
use Rattle.co_log.specs.Scanning.{IsBadAt}
use Rattle.co_log.specs.declared.fault.LogFault.TheVariants as log
use Rattle.co_log.proofs.Judged.{pair_once, attached_not_bad, current_file_in, current_once, one_current, none_current}
use Rattle.co_recover.specs.Recovered.{IsRefusedAt}
use Rattle.co_plain.specs.DurableRecords.{durable_records}
use Rattle.co_serial.specs.declared.member_row.MemberRow.{MemberRow}
use Rattle.co_durable.specs.declared.fault.WorldFault.{WorldFault}
use Rattle.co_durable.specs.declared.fault.WorldFault.TheVariants.{Device, Differs, InUse, Bad, Full, Count, Old, Memory}
use Rattle.co_durable.specs.Durable.{IsLogIn, log_of, IsAllowedBy, IsDurable, Stands, Falls, IsFirstFallen, IsUndurable}
use Rattle.co_serial.specs.MemberRows.{numbered_rows}
use Rattle.co_log.specs.NodeFiles.{HasCurrent, IsCurrentIn, HasRecordsIn}
use Rattle.co_durable.specs.Nodes.{member_nodes, coord_nodes, nodes_of}
use Rattle.co_durable.specs.Pairs.{EachPair, FirstWhere}
use Rattle.co_durable.specs.Reading.{IsUnread}
use Rattle.co_durable.specs.Recovering.{member_refuses, coord_refuses}
use Rattle.co_log.specs.NodeFiles.{Items}
use Rattle.co_durable.specs.Told.{IsTold, AreTold, IsOfFiles}
use Rattle.co_durable.proofs.Firsts.{all_front, all_back, both_first, all_good, pairs_once}
use Rattle.co_durable.proofs.Pairs.{all_map, all_append, all_over}

-- ---- the current file of a node

has_current_once : (node : Node) (a b : List ℕ) (part other : ℕ) (items more : Items) → HasCurrent node a b part items → HasCurrent node a b other more → (part ≡ other) × (items ≡ more)
has_current_once node a b part other items more one two = elim one [
  | inl none ↦ elim two [
    | inl again ↦ (none.0 ∙ sym again.0, none.1 ∙ sym again.1)
    | inr l ↦ elim l [ inl d ↦ absurd (none_current node d.1.0 d.1.1 a b more none.2 d.1.2) | inr d ↦ absurd (none_current node d.1.0 d.1.1 b a more none.3 d.1.2) ]
  ]
  | inr k ↦ elim k [
    | inl c ↦ elim two [
      | inl none ↦ absurd (none_current node c.1.0 c.1.1 a b items none.2 c.1.2)
      | inr l ↦ elim l [ inl d ↦ (c.0 ∙ sym d.0, (current_once node c.1.0 d.1.0 c.1.1 d.1.1 a b items more c.1.2 d.1.2).1) | inr d ↦ absurd (one_current node c.1.0 d.1.0 c.1.1 d.1.1 a b items more c.1.2 d.1.2) ]
    ]
    | inr c ↦ elim two [
      | inl none ↦ absurd (none_current node c.1.0 c.1.1 b a items none.3 c.1.2)
      | inr l ↦ elim l [ inl d ↦ absurd (one_current node c.1.0 d.1.0 c.1.1 d.1.1 b a items more c.1.2 d.1.2) | inr d ↦ (c.0 ∙ sym d.0, (current_once node c.1.0 d.1.0 c.1.1 d.1.1 b a items more c.1.2 d.1.2).1) ]
    ]
  ]
]

-- the current file among these bytes
current_of : (file : Spot → Option File) (node : Node) (part : ℕ) (items : Items) (a b : List ℕ) (c : IsCurrentIn file node part items) → c.a ≡ a → c.b ≡ b → HasCurrent node a b part items
current_of file node part items a b c is_a is_b =
    subst (λ (bytes : List ℕ). HasCurrent node a bytes part items) is_b (subst (λ (bytes : List ℕ). HasCurrent node bytes c.b part items) is_a c.current)

pub current_in_once : (file : Spot → Option File) (node : Node) (part other : ℕ) (items more : Items) → IsTold file node → IsCurrentIn file node part items → IsCurrentIn file node other more → (part ≡ other) × (items ≡ more)
current_in_once file node part other items more told c d =
    let same_a : c.a ≡ d.a = sym (c.told_a told.0 told.2) ∙ d.told_a told.0 told.2 in
    let same_b : c.b ≡ d.b = sym (c.told_b told.1 told.3) ∙ d.told_b told.1 told.3 in
    has_current_once node d.a d.b part other items more (current_of file node part items d.a d.b c same_a same_b) d.current

pub records_once : (file : Spot → Option File) (node : Node) (items more : Items) → IsTold file node → HasRecordsIn file node items → HasRecordsIn file node more → items ≡ more
records_once file node items more told these those = (current_in_once file node these.0 those.0 items more told these.1 those.1).1

-- ---- files that are no log

-- a log is attached over two files of which one is current
attachable : (node : Node) (a b : DiskView) (part : ℕ) (items : Items) → HasCurrent node a.state.stable b.state.stable part items → (opened : LogView) × IsAttached node a b opened
attachable node a b part items has = elim has [
  | inl none ↦ (built node newest a b 0 0, inl (refl, none.2, none.3))
  | inr l ↦ elim l [
    | inl c ↦ (
      built node c.1.0 a b c.1.2.gate c.1.1,
      inr (inl record { version = c.1.0; gate = c.1.2.gate; generation = c.1.1; is = refl; file = current_file_in node c.1.0 c.1.1 a.state.stable b.state.stable items c.1.2; older = c.1.2.older }),
    )
    | inr c ↦ (
      built node c.1.0 b a c.1.2.gate c.1.1,
      inr (inr record { version = c.1.0; gate = c.1.2.gate; generation = c.1.1; is = refl; file = current_file_in node c.1.0 c.1.1 b.state.stable a.state.stable items c.1.2; older = c.1.2.older }),
    )
  ]
]

log_not_unread : (file : Spot → Option File) (fault : WorldFault) (node : Node) → IsOfFiles fault → IsTold file node → IsLogIn file node → IsUnread file fault node → ⊥
log_not_unread file (Device spot) node own told is unread = own
log_not_unread file (Differs spot at kept read) node own told is unread = own
log_not_unread file (InUse spot) node own told is unread = own
log_not_unread file (Bad spot at) node own told is unread =
    let views = unread.3 in
    let c = is.1.1 in
    let has = current_of file node is.1.0 is.0 views.0.state.stable views.1.state.stable c (sym (c.told_a told.0 told.2) ∙ views.2.told told.0 told.2) (sym (c.told_b told.1 told.3) ∙ views.3.told told.1 told.3) in
    let opened = attachable node views.0 views.1 is.1.0 is.0 has in
    attached_not_bad node views.0 views.1 opened.0 (log.Bad spot at) opened.1 views.4
log_not_unread file (Full spot) node own told is unread = elim unread.1 [
  | inl first ↦ omega (arith, first.1 told.0 told.2, is.1.1.within_a told.0 told.2)
  | inr second ↦ omega (arith, second.2 told.1 told.3, is.1.1.within_b told.1 told.3)
]
log_not_unread file Count node own told is unread = own
log_not_unread file (Old spot) node own told is unread = own
log_not_unread file Memory node own told is unread = own

-- a bad pair of files, read by other disks
moved_pair : (node : Node) (a b c d : DiskView) (spot : Spot) (at : ℕ) → a.spot ≡ c.spot → b.spot ≡ d.spot → a.state.stable ≡ c.state.stable → b.state.stable ≡ d.state.stable → IsBadPair node a b (log.Bad spot at) → IsBadPair node c d (log.Bad spot at)
moved_pair node a b c d spot at spot_a spot_b is_a is_b bad = elim bad [
  | inl first ↦ inl (first.0 ∙ spot_a, subst (λ (bytes : List ℕ). IsBadAt node bytes at) is_a first.1)
  | inr second ↦ inr (
    second.0 ∙ spot_b,
    subst (IsGood node) is_a second.1,
    elim second.2 [
      | inl other ↦ inl (subst (λ (bytes : List ℕ). IsBadAt node bytes at) is_b other)
      | inr twins ↦ inr (twins.0, subst (λ (bytes : List ℕ). AreTwins node c.state.stable bytes) is_b (subst (λ (bytes : List ℕ). AreTwins node bytes b.state.stable) is_a twins.1))
    ],
  )
]

unread_once : (file : Spot → Option File) (node : Node) (this that : WorldFault) → IsOfFiles this → IsOfFiles that → IsTold file node → IsUnread file this node → IsUnread file that node → this ≡ that
unread_once file node (Bad spot at) (Bad other place) own its told one two =
    let u = one.3 in
    let v = two.3 in
    let same_a : u.0.state.stable ≡ v.0.state.stable = sym (u.2.told told.0 told.2) ∙ v.2.told told.0 told.2 in
    let same_b : u.1.state.stable ≡ v.1.state.stable = sym (u.3.told told.1 told.3) ∙ v.3.told told.1 told.3 in
    is_bad (pair_once node v.0 v.1 (log.Bad spot at) (log.Bad other place) (moved_pair node u.0 u.1 v.0 v.1 spot at (u.2.at ∙ sym v.2.at) (u.3.at ∙ sym v.3.at) same_a same_b u.4) v.4)
  where
    is_bad : log.Bad spot at ≡ log.Bad other place → Bad spot at ≡ Bad other place
    is_bad e =
        let s : spot ≡ other = cc in
        let p : at ≡ place = cc in
        ap (λ (x : Spot). Bad x at) s ∙ ap (λ (n : ℕ). Bad other n) p
unread_once file node (Bad spot at) (Full other) own its told one two = elim two.1 [
  | inl first ↦ absurd (omega (arith, first.1 told.0 told.2, one.1 told.0 told.2))
  | inr second ↦ absurd (omega (arith, second.2 told.1 told.3, one.2 told.1 told.3))
]
unread_once file node (Full spot) (Bad other place) own its told one two = elim one.1 [
  | inl first ↦ absurd (omega (arith, first.1 told.0 told.2, two.1 told.0 told.2))
  | inr second ↦ absurd (omega (arith, second.2 told.1 told.3, two.2 told.1 told.3))
]
unread_once file node (Full spot) (Full other) own its told one two = elim one.1 [
  | inl first ↦ elim two.1 [ inl again ↦ ap Full (first.0 ∙ sym again.0) | inr second ↦ absurd (omega (arith, first.1 told.0 told.2, second.1 told.0 told.2)) ]
  | inr second ↦ elim two.1 [ inl first ↦ absurd (omega (arith, first.1 told.0 told.2, second.1 told.0 told.2)) | inr again ↦ ap Full (second.0 ∙ sym again.0) ]
]
unread_once file node (Bad spot at) (Device other) own its told one two = absurd its
unread_once file node (Bad spot at) (Differs other place kept read) own its told one two = absurd its
unread_once file node (Bad spot at) (InUse other) own its told one two = absurd its
unread_once file node (Bad spot at) Count own its told one two = absurd its
unread_once file node (Bad spot at) (Old other) own its told one two = absurd its
unread_once file node (Bad spot at) Memory own its told one two = absurd its
unread_once file node (Full spot) (Device other) own its told one two = absurd its
unread_once file node (Full spot) (Differs other place kept read) own its told one two = absurd its
unread_once file node (Full spot) (InUse other) own its told one two = absurd its
unread_once file node (Full spot) Count own its told one two = absurd its
unread_once file node (Full spot) (Old other) own its told one two = absurd its
unread_once file node (Full spot) Memory own its told one two = absurd its
unread_once file node (Device spot) that own its told one two = absurd own
unread_once file node (Differs spot at kept read) that own its told one two = absurd own
unread_once file node (InUse spot) that own its told one two = absurd own
unread_once file node Count that own its told one two = absurd own
unread_once file node (Old spot) that own its told one two = absurd own
unread_once file node Memory that own its told one two = absurd own

-- ---- records that are not allowed at their places

stands_not_falls : (file : Spot → Option File) (refuses : Items → Option ℕ) (spot : Spot) (at : ℕ) (node : Node) → IsTold file node → Stands file refuses node → Falls file refuses spot at node → ⊥
stands_not_falls file refuses spot at node told stands falls =
    let same = records_once file node stands.0 falls.items told stands.1 (falls.part, falls.current) in
    let none : refuses falls.items ≡ None = subst (λ (items : Items). refuses items ≡ None) same stands.2 in
    absurd (let e : None ≡ Some falls.refused.behind = sym none ∙ falls.refused.first in cc)

refused_once : (items : Items) (refused : Option ℕ) (this that : ℕ) → IsRefusedAt items refused this → IsRefusedAt items refused that → this ≡ that
refused_once items refused this that one two =
    let same : one.behind ≡ two.behind = let e : Some one.behind ≡ Some two.behind = sym one.first ∙ two.first in cc in
    let e : Some this ≡ Some that = sym one.place ∙ ap (λ (n : ℕ). slice_get (map (λ item. item.0) items) n) same ∙ two.place in
    cc

falls_once : (file : Spot → Option File) (refuses : Items → Option ℕ) (spot other : Spot) (at place : ℕ) (node : Node) → IsTold file node → Falls file refuses spot at node → Falls file refuses other place node → Bad spot at ≡ Bad other place
falls_once file refuses spot other at place node told one two =
    let same = current_in_once file node one.part two.part one.items two.items told one.current two.current in
    let s : spot ≡ other = one.where_is ∙ ap (spot_of node) same.0 ∙ sym two.where_is in
    let refused : IsRefusedAt two.items (refuses two.items) at = subst (λ (items : Items). IsRefusedAt items (refuses items) at) same.1 one.refused in
    ap (λ (x : Spot). Bad x at) s ∙ ap (λ (n : ℕ). Bad other n) (refused_once two.items (refuses two.items) at place refused two.refused)

first_falls_once : (file : Spot → Option File) (refuses : Items → Option ℕ) (spot other : Spot) (at place : ℕ) (nodes : List Node) → AllByRecursion (IsTold file) nodes
    → FirstWhere (Stands file refuses) (Falls file refuses spot at) nodes → FirstWhere (Stands file refuses) (Falls file refuses other place) nodes → Bad spot at ≡ Bad other place
first_falls_once file refuses spot other at place nodes told one two =
    let both = both_first (IsTold file) (Stands file refuses) (Falls file refuses spot at) (Stands file refuses) (Falls file refuses other place) nodes
    (stands_not_falls file refuses other place) (stands_not_falls file refuses spot at) told one two in
    falls_once file refuses spot other at place both.here both.holds both.bad both.wrong

all_stand : (file : Spot → Option File) (refuses : Items → Option ℕ) (spot : Spot) (at : ℕ) (nodes : List Node) → AllByRecursion (IsTold file) nodes → AllByRecursion (Stands file refuses) nodes → FirstWhere (Stands file refuses) (Falls file refuses spot at) nodes → ⊥
all_stand file refuses spot at nodes told stand first = all_good (IsTold file) (Stands file refuses) (Stands file refuses) (Falls file refuses spot at) nodes (stands_not_falls file refuses spot at) told stand first

fallen_once : (file : Spot → Option File) (members coords : ℕ) (spot other : Spot) (at place : ℕ) → AreTold file members coords → IsFirstFallen file members coords spot at → IsFirstFallen file members coords other place → Bad spot at ≡ Bad other place
fallen_once file members coords spot other at place told one two =
    let m = all_front (IsTold file) (member_nodes members) (coord_nodes coords) told in
    let k = all_back (IsTold file) (member_nodes members) (coord_nodes coords) told in
    elim one [
      | inl f ↦ elim two [
        | inl g ↦ first_falls_once file (member_refuses coords) spot other at place (member_nodes members) m f g
        | inr g ↦ absurd (all_stand file (member_refuses coords) spot at (member_nodes members) m g.0 f)
      ]
      | inr f ↦ elim two [
        | inl g ↦ absurd (all_stand file (member_refuses coords) other place (member_nodes members) m f.0 g)
        | inr g ↦ first_falls_once file (coord_refuses members) spot other at place (coord_nodes coords) k f.1 g.1
      ]
    ]

-- ---- whole directories

-- a fault of the files is that of the first files that are no log, or stands behind logs alone
abbrev Unread : (Spot → Option File) → ℕ → ℕ → WorldFault → Type 0
Unread file members coords fault = FirstWhere (IsLogIn file) (IsUnread file fault) (nodes_of members coords)

abbrev AllLogs : (Spot → Option File) → ℕ → ℕ → Type 0
AllLogs file members coords = AllByRecursion (IsLogIn file) (nodes_of members coords)

not_all_logs : (file : Spot → Option File) (members coords : ℕ) (fault : WorldFault) → IsOfFiles fault → AreTold file members coords → AllLogs file members coords → Unread file members coords fault → ⊥
not_all_logs file members coords fault own told logs unread =
    all_good (IsTold file) (IsLogIn file) (IsLogIn file) (IsUnread file fault) (nodes_of members coords) (λ node. log_not_unread file fault node own) told logs unread

first_unread_once : (file : Spot → Option File) (members coords : ℕ) (this that : WorldFault) → IsOfFiles this → IsOfFiles that → AreTold file members coords → Unread file members coords this → Unread file members coords that → this ≡ that
first_unread_once file members coords this that own its told one two =
    let both = both_first (IsTold file) (IsLogIn file) (IsUnread file this) (IsLogIn file) (IsUnread file that) (nodes_of members coords)
    (λ node. log_not_unread file that node its) (λ node. log_not_unread file this node own) told one two in
    unread_once file both.here this that own its both.holds both.bad both.wrong

pub undurable_once : (file : Spot → Option File) (members coords : ℕ) (this that : WorldFault) → AreTold file members coords → IsOfFiles this → IsOfFiles that → IsUndurable file members coords this → IsUndurable file members coords that → this ≡ that
undurable_once file members coords (Bad spot at) (Bad other place) told own its one two = elim one [
  | inl u ↦ elim two [
    | inl v ↦ first_unread_once file members coords (Bad spot at) (Bad other place) own its told u v
    | inr g ↦ absurd (not_all_logs file members coords (Bad spot at) own told g.0 u)
  ]
  | inr f ↦ elim two [
    | inl v ↦ absurd (not_all_logs file members coords (Bad other place) its told f.0 v)
    | inr g ↦ fallen_once file members coords spot other at place told f.1 g.1
  ]
]
undurable_once file members coords (Bad spot at) (Full other) told own its one two = elim one [
  | inl u ↦ first_unread_once file members coords (Bad spot at) (Full other) own its told u two
  | inr f ↦ absurd (not_all_logs file members coords (Full other) its told f.0 two)
]
undurable_once file members coords (Full spot) (Bad other place) told own its one two = elim two [
  | inl v ↦ first_unread_once file members coords (Full spot) (Bad other place) own its told one v
  | inr g ↦ absurd (not_all_logs file members coords (Full spot) own told g.0 one)
]
undurable_once file members coords (Full spot) (Full other) told own its one two = first_unread_once file members coords (Full spot) (Full other) own its told one two
undurable_once file members coords (Bad spot at) (Device other) told own its one two = absurd its
undurable_once file members coords (Bad spot at) (Differs other place kept read) told own its one two = absurd its
undurable_once file members coords (Bad spot at) (InUse other) told own its one two = absurd its
undurable_once file members coords (Bad spot at) Count told own its one two = absurd its
undurable_once file members coords (Bad spot at) (Old other) told own its one two = absurd its
undurable_once file members coords (Bad spot at) Memory told own its one two = absurd its
undurable_once file members coords (Full spot) (Device other) told own its one two = absurd its
undurable_once file members coords (Full spot) (Differs other place kept read) told own its one two = absurd its
undurable_once file members coords (Full spot) (InUse other) told own its one two = absurd its
undurable_once file members coords (Full spot) Count told own its one two = absurd its
undurable_once file members coords (Full spot) (Old other) told own its one two = absurd its
undurable_once file members coords (Full spot) Memory told own its one two = absurd its
undurable_once file members coords (Device spot) that told own its one two = absurd own
undurable_once file members coords (Differs spot at kept read) that told own its one two = absurd own
undurable_once file members coords (InUse spot) that told own its one two = absurd own
undurable_once file members coords Count that told own its one two = absurd own
undurable_once file members coords (Old spot) that told own its one two = absurd own
undurable_once file members coords Memory that told own its one two = absurd own

nodes_stand : (file : Spot → Option File) (refuses : Items → Option ℕ) (nodes : List Node) (logs : List Items) → EachPair (HasRecordsIn file) nodes logs → AllByRecursion (IsAllowedBy refuses) logs → AllByRecursion (Stands file refuses) nodes
nodes_stand file refuses nodes logs read allowed = all_over (HasRecordsIn file) (IsAllowedBy refuses) (Stands file refuses) (λ node items has none. (items, has, none)) nodes logs read allowed

-- where the records of all logs are allowed at their places, there is no fault of the files
module _ (file : Spot → Option File) (members coords : ℕ) (told : AreTold file members coords)
    (these : AllByRecursion (Stands file (member_refuses coords)) (member_nodes members)) (those : AllByRecursion (Stands file (coord_refuses members)) (coord_nodes coords)) where
  logs_stand : AllLogs file members coords
  logs_stand =
      all_append (IsLogIn file) (member_nodes members) (coord_nodes coords)
      (all_map (Stands file (member_refuses coords)) (IsLogIn file) (λ node stands. (stands.0, stands.1)) (member_nodes members) these)
      (all_map (Stands file (coord_refuses members)) (IsLogIn file) (λ node stands. (stands.0, stands.1)) (coord_nodes coords) those)

  none_fallen : (spot : Spot) (at : ℕ) → IsFirstFallen file members coords spot at → ⊥
  none_fallen spot at fallen = elim fallen [
    | inl f ↦ all_stand file (member_refuses coords) spot at (member_nodes members) (all_front (IsTold file) (member_nodes members) (coord_nodes coords) told) these f
    | inr f ↦ all_stand file (coord_refuses members) spot at (coord_nodes coords) (all_back (IsTold file) (member_nodes members) (coord_nodes coords) told) those f.1
  ]

  pub standing_or_not : (fault : WorldFault) → IsOfFiles fault → IsUndurable file members coords fault → ⊥
  standing_or_not (Device spot) own u = own
  standing_or_not (Differs spot at kept read) own u = own
  standing_or_not (InUse spot) own u = own
  standing_or_not (Bad spot at) own u = elim u [ inl unread ↦ not_all_logs file members coords (Bad spot at) own told logs_stand unread | inr f ↦ none_fallen spot at f.1 ]
  standing_or_not (Full spot) own u = not_all_logs file members coords (Full spot) own told logs_stand u
  standing_or_not Count own u = own
  standing_or_not (Old spot) own u = own
  standing_or_not Memory own u = own

pub durable_or_not : (file : Spot → Option File) (members coords : ℕ) (rows : List MemberRow) (fault : WorldFault) → AreTold file members coords → IsOfFiles fault → IsDurable file members coords rows → IsUndurable file members coords fault → ⊥
durable_or_not file members coords rows fault told own d u =
    standing_or_not file members coords told (nodes_stand file (member_refuses coords) (member_nodes members) d.member_logs d.read_members d.allowed_members)
    (nodes_stand file (coord_refuses members) (coord_nodes coords) d.coord_logs d.read_coords d.allowed_coords) fault own u

pub durable_once : (file : Spot → Option File) (members coords : ℕ) (these those : List MemberRow) → AreTold file members coords → IsDurable file members coords these → IsDurable file members coords those → these ≡ those
durable_once file members coords these those told d e =
    let members_are : d.member_logs ≡ e.member_logs =
    pairs_once (IsTold file) (HasRecordsIn file) (records_once file) (member_nodes members) d.member_logs e.member_logs (all_front (IsTold file) (member_nodes members) (coord_nodes coords) told) d.read_members e.read_members in
    let coords_are : d.coord_logs ≡ e.coord_logs =
    pairs_once (IsTold file) (HasRecordsIn file) (records_once file) (coord_nodes coords) d.coord_logs e.coord_logs (all_back (IsTold file) (member_nodes members) (coord_nodes coords) told) d.read_coords e.read_coords in
    d.are ∙ ap (λ (logs : List Items). numbered_rows (durable_records (log_of logs) (log_of d.coord_logs)) 1 members) members_are
    ∙ ap (λ (logs : List Items). numbered_rows (durable_records (log_of e.member_logs) (log_of logs)) 1 members) coords_are ∙ sym e.are

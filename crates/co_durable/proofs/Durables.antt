-- What is told of opened logs is the durable records of their files, or why there are none.
use Rattle.std.proofs.Common.{◌≡◌, inl, inr, ℕ, zero, suc, ◌+◌, ◌-◌, List, [], ◌∷◌, ◌++◌, map, length, get_or, Option, Ok, if◌then◌else◌, refl, sym, ap, ◌∙◌, arith}
use Rattle.std.specs.FinMap.{entries}
use Rattle.std.specs.List.{AllByRecursion}
use Rattle.co_base.specs.declared.node.Node.{Node}
use Rattle.co_base.specs.declared.node.Node.TheVariants.{Member}
use Rattle.co_base.specs.declared.row.Row.{Row}
use Rattle.co_outside.specs.declared.spot.Spot.{Spot}
use Rattle.co_outside.specs.Home.{File}
use Rattle.co_record.specs.declared.record.Record.{Record}
use Rattle.co_log.specs.LogView.{LogView}
use Rattle.co_serial.specs.Records.{Records, all_rows, with_changes}
use Rattle.co_serial.specs.SerialRun.{AllRecords}
use Rattle.co_state.specs.declared.engine_state.Vote.{Vote}
use Rattle.co_state.specs.Table.{no_entries, holds}
use Rattle.co_plain.specs.MemberView.{Numbers, recovered_view}
use Rattle.co_plain.specs.CoordView.{recovered_commits}
use Rattle.co_plain.specs.DurableRecords.{with_decided, durable_of, durable_records}
use Rattle.co_plain.specs.declared.member_view.MemberView.{MemberView}
use Rattle.co_recover.specs.declared.past.MemberPast.{MemberPast}
use Rattle.co_recover.specs.Recovered.{prepared_of, past_of_member, IsMemberRecovery}
use Rattle.co_serial.specs.declared.member_row.MemberRow.{MemberRow}
use Rattle.co_durable.specs.declared.fault.WorldFault.{WorldFault}
use Rattle.co_durable.specs.declared.fault.WorldFault.TheVariants.{Device, Differs, InUse, Bad, Full, Count, Old, Memory}
use Rattle.co_durable.specs.Durable.{IsLogIn, log_of, IsAllowedBy, IsDurable, Stands, Falls, IsUndurable}
use Rattle.co_serial.specs.MemberRows.{numbered_rows, member_rows}
use Rattle.co_log.specs.NodeFiles.{HasRecordsIn}
use Rattle.co_durable.specs.Laying.{seen_by, with_decided_votes, durable_of_past, rows_from, durable_of_pasts}
use Rattle.co_durable.specs.Nodes.{member_nodes, coord_nodes}
use Rattle.co_durable.specs.Pairs.{EachPair, FirstWhere}
use Rattle.co_durable.specs.Reading.{IsLogOf, HasLog, IsUnread, IsFirstUnread}
use Rattle.co_durable.specs.Recovering.{HasItems, member_refuses, coord_refuses, IsPastOf, AreSeen, IsSeenIn, LogStands, LogFalls, IsFirstToFall}
use Rattle.co_log.specs.NodeFiles.{Items, newest_first}
use Rattle.co_durable.proofs.Numbered.{so_many}
use Rattle.co_durable.proofs.Opened.{opened, log_in, stands, falls}
use Rattle.co_durable.proofs.Pairs.{left_all, all_over, all_append, first_left, first_right, first_map, first_over, pairs_length}
use Rattle.co_durable.proofs.Rows.{records_again}

-- ---- why there are none

first_unread_in : (file : Spot → Option File) (fault : WorldFault) (nodes : List Node) → FirstWhere (HasLog file) (IsUnread file fault) nodes → FirstWhere (IsLogIn file) (IsUnread file fault) nodes
first_unread_in file fault nodes f = first_map (HasLog file) (IsLogIn file) (IsUnread file fault) (IsUnread file fault) (log_in file) (λ n b. b) nodes f

pub unread_member : (file : Spot → Option File) (members coords : ℕ) (fault : WorldFault) → IsFirstUnread file (member_nodes members) fault → IsUndurable file members coords fault
unread_member file members coords (Device spot) f = first_left (IsLogIn file) (IsUnread file (Device spot)) (member_nodes members) (coord_nodes coords) (first_unread_in file (Device spot) (member_nodes members) f)
unread_member file members coords (Differs spot at kept read) f = absurd f.bad
unread_member file members coords (InUse spot) f = absurd f.bad
unread_member file members coords (Bad spot at) f = inl (first_left (IsLogIn file) (IsUnread file (Bad spot at)) (member_nodes members) (coord_nodes coords) (first_unread_in file (Bad spot at) (member_nodes members) f))
unread_member file members coords (Full spot) f = first_left (IsLogIn file) (IsUnread file (Full spot)) (member_nodes members) (coord_nodes coords) (first_unread_in file (Full spot) (member_nodes members) f)
unread_member file members coords Count f = absurd f.bad
unread_member file members coords (Old spot) f = absurd f.bad
unread_member file members coords Memory f = tt

logs_in : (file : Spot → Option File) (nodes : List Node) (logs : List LogView) → EachPair (IsLogOf file) nodes logs → AllByRecursion (IsLogIn file) nodes
logs_in file nodes logs pairs = left_all (IsLogOf file) (IsLogIn file) (λ node log is. log_in file node (log, is)) nodes logs pairs

pub unread_coord : (file : Spot → Option File) (members coords : ℕ) (logs : List LogView) (fault : WorldFault) → EachPair (IsLogOf file) (member_nodes members) logs → IsFirstUnread file (coord_nodes coords) fault → IsUndurable file members coords fault
unread_coord file members coords logs (Device spot) pairs f =
    first_right (IsLogIn file) (IsUnread file (Device spot)) (member_nodes members) (coord_nodes coords) (logs_in file (member_nodes members) logs pairs) (first_unread_in file (Device spot) (coord_nodes coords) f)
unread_coord file members coords logs (Differs spot at kept read) pairs f = absurd f.bad
unread_coord file members coords logs (InUse spot) pairs f = absurd f.bad
unread_coord file members coords logs (Bad spot at) pairs f =
    inl (first_right (IsLogIn file) (IsUnread file (Bad spot at)) (member_nodes members) (coord_nodes coords) (logs_in file (member_nodes members) logs pairs) (first_unread_in file (Bad spot at) (coord_nodes coords) f))
unread_coord file members coords logs (Full spot) pairs f =
    first_right (IsLogIn file) (IsUnread file (Full spot)) (member_nodes members) (coord_nodes coords) (logs_in file (member_nodes members) logs pairs) (first_unread_in file (Full spot) (coord_nodes coords) f)
unread_coord file members coords logs Count pairs f = absurd f.bad
unread_coord file members coords logs (Old spot) pairs f = absurd f.bad
unread_coord file members coords logs Memory pairs f = tt

first_fall : (file : Spot → Option File) (refuses : Items → Option ℕ) (spot : Spot) (at : ℕ) (nodes : List Node) (logs : List LogView) → EachPair (IsLogOf file) nodes logs
    → FirstWhere (LogStands refuses) (LogFalls refuses (Bad spot at)) logs → FirstWhere (Stands file refuses) (Falls file refuses spot at) nodes
first_fall file refuses spot at nodes logs pairs f =
    first_over (IsLogOf file) (LogStands refuses) (LogFalls refuses (Bad spot at)) (Stands file refuses) (Falls file refuses spot at) (stands file refuses) (falls file refuses spot at) nodes logs pairs f

all_logs : (file : Spot → Option File) (members coords : ℕ) (member_logs coord_logs : List LogView) → EachPair (IsLogOf file) (member_nodes members) member_logs → EachPair (IsLogOf file) (coord_nodes coords) coord_logs
    → AllByRecursion (IsLogIn file) (member_nodes members ++ coord_nodes coords)
all_logs file members coords member_logs coord_logs m c =
    all_append (IsLogIn file) (member_nodes members) (coord_nodes coords) (logs_in file (member_nodes members) member_logs m) (logs_in file (coord_nodes coords) coord_logs c)

pub fallen_member : (file : Spot → Option File) (members coords : ℕ) (member_logs coord_logs : List LogView) (fault : WorldFault) → EachPair (IsLogOf file) (member_nodes members) member_logs → EachPair (IsLogOf file) (coord_nodes coords) coord_logs
    → IsFirstToFall (member_refuses coords) member_logs fault → IsUndurable file members coords fault
fallen_member file members coords member_logs coord_logs (Device spot) m c f = absurd f.bad
fallen_member file members coords member_logs coord_logs (Differs spot at kept read) m c f = absurd f.bad
fallen_member file members coords member_logs coord_logs (InUse spot) m c f = absurd f.bad
fallen_member file members coords member_logs coord_logs (Bad spot at) m c f =
    inr (all_logs file members coords member_logs coord_logs m c, inl (first_fall file (member_refuses coords) spot at (member_nodes members) member_logs m f))
fallen_member file members coords member_logs coord_logs (Full spot) m c f = absurd f.bad
fallen_member file members coords member_logs coord_logs Count m c f = absurd f.bad
fallen_member file members coords member_logs coord_logs (Old spot) m c f = absurd f.bad
fallen_member file members coords member_logs coord_logs Memory m c f = tt

members_stand : (file : Spot → Option File) (members coords : ℕ) (logs : List LogView) (pasts : List MemberPast) → EachPair (IsLogOf file) (member_nodes members) logs → EachPair (IsPastOf coords) logs pasts
    → AllByRecursion (Stands file (member_refuses coords)) (member_nodes members)
members_stand file members coords logs pasts m p =
    all_over (IsLogOf file) (LogStands (member_refuses coords)) (Stands file (member_refuses coords)) (stands file (member_refuses coords)) (member_nodes members) logs m
    (left_all (IsPastOf coords) (LogStands (member_refuses coords)) (λ log past r items has. (r items has).0) logs pasts p)

pub fallen_coord : (file : Spot → Option File) (members coords : ℕ) (member_logs coord_logs : List LogView) (pasts : List MemberPast) (fault : WorldFault) → EachPair (IsLogOf file) (member_nodes members) member_logs
    → EachPair (IsLogOf file) (coord_nodes coords) coord_logs → EachPair (IsPastOf coords) member_logs pasts → IsFirstToFall (coord_refuses members) coord_logs fault → IsUndurable file members coords fault
fallen_coord file members coords member_logs coord_logs pasts (Device spot) m c p f = absurd f.bad
fallen_coord file members coords member_logs coord_logs pasts (Differs spot at kept read) m c p f = absurd f.bad
fallen_coord file members coords member_logs coord_logs pasts (InUse spot) m c p f = absurd f.bad
fallen_coord file members coords member_logs coord_logs pasts (Bad spot at) m c p f =
    inr (
      all_logs file members coords member_logs coord_logs m c,
      inr (members_stand file members coords member_logs pasts m p, first_fall file (coord_refuses members) spot at (coord_nodes coords) coord_logs c f),
    )
fallen_coord file members coords member_logs coord_logs pasts (Full spot) m c p f = absurd f.bad
fallen_coord file members coords member_logs coord_logs pasts Count m c p f = absurd f.bad
fallen_coord file members coords member_logs coord_logs pasts (Old spot) m c p f = absurd f.bad
fallen_coord file members coords member_logs coord_logs pasts Memory m c p f = tt

-- ---- what they are

-- the records of the nodes' files, of each of which this was told
record Told {T : Type 0} (file : Spot → Option File) (P : Items → T → Type 0) (nodes : List Node) (tolds : List T) : Type 0 where
  pub lists : List Items
  pub read : EachPair (HasRecordsIn file) nodes lists
  pub pairs : EachPair P lists tolds

told : {T : Type 0} (file : Spot → Option File) (P : Items → T → Type 0) (related : LogView → T → Type 0) → ((log : LogView) (items : Items) (t : T) → HasItems log items → related log t → P items t)
    → (nodes : List Node) (logs : List LogView) (tolds : List T) → EachPair (IsLogOf file) nodes logs → EachPair related logs tolds → Told file P nodes tolds
told file P related f [] [] [] p r = record { lists = []; read = tt; pairs = tt }
told file P related f [] [] (t ∷ ts) p r = absurd r
told file P related f [] (l ∷ ls) ts p r = absurd p
told file P related f (n ∷ ns) [] ts p r = absurd p
told file P related f (n ∷ ns) (l ∷ ls) [] p r = absurd r
told file P related f (n ∷ ns) (l ∷ ls) (t ∷ ts) p r =
    let o = opened file n l p.0 in
    let more = told file P related f ns ls ts p.1 r.1 in
    record { lists = o.items ∷ more.lists; read = ((o.part, o.current), more.read); pairs = (f l o.items t o.has r.0, more.pairs) }

-- the commits of a coordinator are those of its log
seen_at : (members : ℕ) (lists : List Items) (seen : List Numbers) (place : ℕ) → EachPair (AreSeen members) lists seen → get_or seen place no_entries ≡ (recovered_commits (get_or (map newest_first lists) place [])).seen
seen_at members [] [] place p = refl
seen_at members [] (s ∷ ss) place p = absurd p
seen_at members (l ∷ ls) [] place p = absurd p
seen_at members (l ∷ ls) (s ∷ ss) zero p = p.0.are
seen_at members (l ∷ ls) (s ∷ ss) (suc place) p = seen_at members ls ss place p.1

module _ (seen : List Numbers) (logs : ℕ → List Record) where
  -- the commits of the coordinator that asked for a vote are those of its log
  abbrev pub IsSeen : ℕ × Vote → Type 0
  IsSeen e = seen_by seen e.1.coord ≡ (recovered_commits (logs e.1.coord)).seen

  laid_votes : (es : List (ℕ × Vote)) (records : Records) → AllByRecursion IsSeen es → with_decided_votes seen records (map prepared_of es) ≡ with_decided logs records es
  laid_votes [] records same = refl
  laid_votes (e ∷ es) records same =
      laid_votes es (if holds (seen_by seen e.1.coord) e.0 then with_changes records e.1.sets.writes else records) same.1
      ∙ ap (λ (numbers : Numbers). with_decided logs (if holds numbers e.0 then with_changes records e.1.sets.writes else records) es) same.0

  -- what a past gives is what the view gives that it was recovered from
  pub past_is_durable : (past : MemberPast) (view : MemberView) → past ≡ past_of_member view → AllByRecursion IsSeen (entries view.voted) → durable_of_past seen past ≡ durable_of logs view
  past_is_durable past view is same =
      ap (durable_of_past seen) is ∙ ap (λ (records : Records). with_decided_votes seen records (map prepared_of (entries view.voted))) (records_again view.records)
      ∙ laid_votes (entries view.voted) view.records same

module _ (seen : List Numbers) (logs : ℕ → List Record) (same : (c : ℕ) → seen_by seen c ≡ (recovered_commits (logs c)).seen) where
  all_seen : (es : List (ℕ × Vote)) → AllByRecursion (IsSeen seen logs) es
  all_seen [] = tt
  all_seen (e ∷ es) = (same e.1.coord, all_seen es)

  member_is_durable : (coords : ℕ) (items : Items) (past : MemberPast) → IsMemberRecovery coords items (Ok past) → all_rows (durable_of_past seen past) ≡ all_rows (durable_of logs (recovered_view (newest_first items)))
  member_is_durable coords items past r =
      ap all_rows (past_is_durable seen logs past (recovered_view (newest_first items)) r.1 (all_seen (entries (recovered_view (newest_first items)).voted)))

  -- the rows of members that stand one after another
  rows_are : (coords : ℕ) (all : AllRecords) (lists : List Items) (pasts : List MemberPast) (member : ℕ) → EachPair (λ items past. IsMemberRecovery coords items (Ok past)) lists pasts
      → ((place : ℕ) → all (member + place) ≡ durable_of logs (recovered_view (get_or (map newest_first lists) place []))) → rows_from member (map (λ past. all_rows (durable_of_past seen past)) pasts) ≡ numbered_rows all member (length pasts)
  rows_are coords all [] [] member p h = refl
  rows_are coords all [] (x ∷ pasts) member p h = absurd p
  rows_are coords all (items ∷ lists) [] member p h = absurd p
  rows_are coords all (items ∷ lists) (past ∷ pasts) member p h =
      let first : all member ≡ durable_of logs (recovered_view (newest_first items)) = ap all (let e : member ≡ member + 0 = omega arith in e) ∙ h 0 in
      ap (λ (rows : List Row). member_rows member rows ++ rows_from (suc member) (map (λ past. all_rows (durable_of_past seen past)) pasts)) (member_is_durable coords items past p.0 ∙ ap all_rows (sym first))
      ∙ ap (λ (rows : List MemberRow). member_rows member (all_rows (all member)) ++ rows)
      (rows_are coords all lists pasts (suc member) p.1 (λ place. ap all (let e : suc member + place ≡ member + suc place = omega arith in e) ∙ h (suc place)))

pub durable : (file : Spot → Option File) (members coords : ℕ) (member_logs coord_logs : List LogView) (pasts : List MemberPast) (seen : List Numbers) (rows : List MemberRow) → EachPair (IsLogOf file) (member_nodes members) member_logs
    → EachPair (IsLogOf file) (coord_nodes coords) coord_logs → EachPair (IsPastOf coords) member_logs pasts → EachPair (IsSeenIn members) coord_logs seen → rows ≡ durable_of_pasts seen pasts → IsDurable file members coords rows
durable file members coords member_logs coord_logs pasts seen rows m c p s is =
    let m_told = told file (λ items past. IsMemberRecovery coords items (Ok past)) (IsPastOf coords) (λ log items past has r. r items has) (member_nodes members) member_logs pasts m p in
    let c_told = told file (AreSeen members) (IsSeenIn members) (λ log items numbers has r. r items has) (coord_nodes coords) coord_logs seen c s in
    let same : (n : ℕ) → seen_by seen n ≡ (recovered_commits (log_of c_told.lists n)).seen = λ n. seen_at members c_told.lists seen (n - 1) c_told.pairs in
    let count : length pasts ≡ members =
    pairs_length (λ items past. IsMemberRecovery coords items (Ok past)) m_told.lists pasts m_told.pairs ∙ pairs_length (HasRecordsIn file) (member_nodes members) m_told.lists m_told.read ∙ so_many Member members in
    let all : AllRecords = durable_records (log_of m_told.lists) (log_of c_told.lists) in
    record {
      member_logs = m_told.lists;
      coord_logs = c_told.lists;
      read_members = m_told.read;
      read_coords = c_told.read;
      allowed_members = left_all (λ items past. IsMemberRecovery coords items (Ok past)) (IsAllowedBy (member_refuses coords)) (λ items past r. r.0) m_told.lists pasts m_told.pairs;
      allowed_coords = left_all (AreSeen members) (IsAllowedBy (coord_refuses members)) (λ items numbers r. r.allowed) c_told.lists seen c_told.pairs;
      are = is
          ∙ rows_are seen (log_of c_told.lists) same coords all m_told.lists pasts 1 m_told.pairs
          (λ place. ap (λ n. durable_of (log_of c_told.lists) (recovered_view (get_or (map newest_first m_told.lists) n []))) (let e : (1 + place) - 1 ≡ place = omega arith in e))
          ∙ ap (numbered_rows all 1) count;
    }

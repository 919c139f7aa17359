-- What the files have of a federation that stands for a state, and what that comes to for a run.
use Rattle.std.proofs.Common.{◌≡◌, ◌⊎◌, inl, inr, ℕ, zero, suc, Bool, List, [], ◌∷◌, ◌++◌, length, reverse, Option, Some, refl, sym, ap, ◌∙◌, subst, arith}
use Rattle.std.specs.FinMap.{entries, entries_sorted, get-entries}
use Rattle.std.specs.List.{AllByRecursion}
use Rattle.std.proofs.lemmas.List.{reverse-reverse}
use Rattle.co_base.specs.declared.node.Node.{Node}
use Rattle.co_base.specs.declared.node.Node.TheVariants as node
use Rattle.co_outside.specs.declared.spot.Spot.{Spot}
use Rattle.co_outside.specs.Home.{File}
use Rattle.co_record.specs.declared.record.Record.{Record}
use Rattle.co_log.specs.NodeFiles.{Items, newest_first}
use Rattle.co_recover.specs.Recovered.{records_of}
use Rattle.co_node.specs.Answers.{AreTold}
use Rattle.co_state.specs.declared.engine_state.Vote.{Vote}
use Rattle.co_plain.specs.CoordView.{first_refused_at_coord}
use Rattle.co_plain.specs.DurableRecords.{durable_records, durable_in}
use Rattle.co_plain.specs.Federation.{Federation}
use Rattle.co_plain.specs.Invariants.{Stable}
use Rattle.co_plain.specs.MemberView.{first_refused_at_member, recovered_view}
use Rattle.co_plain.specs.Promises.{serial_records}
use Rattle.co_plain.specs.Runs.{run, lines}
use Rattle.co_plain.specs.Step.{disarmed, step, step_line}
use Rattle.co_plain.specs.declared.happening.Happening.{Happening}
use Rattle.co_plain.specs.declared.happening.Happening.TheVariants as happening
use Rattle.co_message.specs.declared.event.Event.{Event}
use Rattle.co_replay.specs.Schedule.{HasLine}
use Rattle.co_serial.specs.SerialRun.{AllRecords}
use Rattle.co_durable.specs.Durable.{IsDurable, log_of, IsAllowedBy}
use Rattle.co_serial.specs.MemberRows.{numbered_rows}
use Rattle.co_durable.specs.Nodes.{numbered, member_nodes, coord_nodes}
use Rattle.co_durable.specs.Recovering.{member_refuses, coord_refuses}
use Rattle.co_durable.specs.Told as files
use Rattle.co_law_base.proofs.ImageRules.{EachEntry, each_entry}
use Rattle.co_law_node.specs.WholeNodes.{AreWhole}
use Rattle.co_plain.specs.Premises.{AreTrueVerdicts, AreOwn}
use Rattle.co_plain.specs.Numbers.{IsAmong}
use Rattle.co_law_runs.proofs.Agreement.{run_more}
use Rattle.co_law.proofs.EveryRun.{every_log, every_sound}
use Rattle.co_law.proofs.GoingOn.{lines_true}
use Rattle.co_cluster.specs.Left.{AreLeftAs}
use Rattle.co_top.specs.Front.{IsNext}
use Rattle.co_top.specs.Ran.{Ran, start_of, end_of, AreLeftAfter, AreLeftBy, AreLeftByFault}
use Rattle.co_top.proofs.Again.{may_again}
use Rattle.co_top.proofs.Laws.{all_own, fit_after, whole_after, writable_after, openable}
use Rattle.co_top.proofs.Lists.{or_last}
use Rattle.co_top.proofs.LeftRecords.{Gathered, gather, same_decided, same_rows}

-- ---- the durable records of such files

-- of nodes of a sort that are told, the one of a number is
all_but_last : (file : Spot → Option File) (xs : List Node) (x : Node) → AllByRecursion (files.IsTold file) (xs ++ x ∷ []) → AllByRecursion (files.IsTold file) xs × files.IsTold file x
all_but_last file [] x a = (tt, a.0)
all_but_last file (y ∷ ys) x a = let rest = all_but_last file ys x a.1 in ((a.0, rest.0), rest.1)

as_told : (file : Spot → Option File) (n : Node) → files.IsTold file n → AreTold file n
as_told file n t = record { a = t.0; b = t.1; is_a = t.2; is_b = t.3 }

pub told_at : (file : Spot → Option File) (sort : ℕ → Node) (count n : ℕ) → AllByRecursion (files.IsTold file) (numbered sort count) → IsAmong n count → AreTold file (sort n)
told_at file sort zero n all between = absurd (omega (arith, between.0, between.1))
told_at file sort (suc count) n all between =
    let parts = all_but_last file (numbered sort count) (sort (suc count)) all in
    elim (or_last n count between.1) as (λ c. AreTold file (sort n))
    [ inl few ↦ told_at file sort count n parts.0 (between.0, few) | inr last ↦ subst (λ k. AreTold file (sort k)) (sym last) (as_told file (sort (suc count)) parts.1) ]

pub split_told : (file : Spot → Option File) (xs ys : List Node) → AllByRecursion (files.IsTold file) (xs ++ ys) → AllByRecursion (files.IsTold file) xs × AllByRecursion (files.IsTold file) ys
split_told file [] ys a = (tt, a)
split_told file (x ∷ xs) ys a = let rest = split_told file xs ys a.1 in ((a.0, rest.0), rest.1)

module _ (file : Spot → Option File) (members coords : ℕ) (s : Federation) (w : AreWhole members coords s) (kinds : length s.kinds ≡ members) (coordinators : s.coordinators ≡ coords) (left : AreLeftAs file s) (told : files.AreTold file members coords) where
  both : AllByRecursion (files.IsTold file) (member_nodes members) × AllByRecursion (files.IsTold file) (coord_nodes coords)
  both = split_told file (member_nodes members) (coord_nodes coords) told

  turned : (items : Items) (rs : List Record) → newest_first items ≡ rs → records_of items ≡ reverse rs
  turned items rs is = sym (reverse-reverse (records_of items)) ∙ ap reverse is

  in_members : Gathered file node.Member (IsAllowedBy (member_refuses coords)) (λ m. (s.member m).log.stable) members
  in_members =
      gather file node.Member (IsAllowedBy (member_refuses coords)) (λ m. (s.member m).log.stable) members
      (λ m between.
      let has = left.member m between.0 (omega (arith, between.1, kinds)) (told_at file node.Member members m both.0 between) in
      (has.0, has.1, ap (first_refused_at_member coords) (turned has.0 (s.member m).log.stable has.2) ∙ (w.member m).readable Stable, has.2))

  in_coords : Gathered file node.Coord (IsAllowedBy (coord_refuses members)) (λ c. (s.coord c).log.stable) coords
  in_coords =
      gather file node.Coord (IsAllowedBy (coord_refuses members)) (λ c. (s.coord c).log.stable) coords
      (λ c between.
      let has = left.coord c between.0 (omega (arith, between.1, coordinators)) (told_at file node.Coord coords c both.1 between) in
      (has.0, has.1, ap (first_refused_at_coord members) (turned has.0 (s.coord c).log.stable has.2) ∙ (w.coord c).readable Stable, has.2))

  as_all : (es : List (ℕ × Vote)) → EachEntry (λ t vote. log_of in_coords.lists vote.coord ≡ (s.coord vote.coord).log.stable) es →
      AllByRecursion (λ (e : ℕ × Vote). log_of in_coords.lists e.1.coord ≡ (s.coord e.1.coord).log.stable) es
  as_all [] h = tt
  as_all (e ∷ es) h = (h.0, as_all es h.1)

  same_durable : (m : ℕ) → IsAmong m members → durable_records (log_of in_members.lists) (log_of in_coords.lists) m ≡ durable_in s m
  same_durable m between =
      ap (λ rs. durable_records (λ n. rs) (log_of in_coords.lists) m) (in_members.are m between)
      ∙ (let v = recovered_view (s.member m).log.stable in
      same_decided (log_of in_coords.lists) (λ c. (s.coord c).log.stable) (entries v.voted) v.records
      (as_all (entries v.voted)
      (each_entry (λ t vote. log_of in_coords.lists vote.coord ≡ (s.coord vote.coord).log.stable) (entries v.voted) (entries_sorted v.voted)
      (λ t vote f. in_coords.are vote.coord ((w.member m).voted Stable t vote (get-entries v.voted t ∙ f))))))

  pub durable_left : (all : AllRecords) → ((m : ℕ) → durable_in s m ≡ all m) → IsDurable file members coords (numbered_rows all 1 members)
  durable_left all same =
      record {
        member_logs = in_members.lists;
        coord_logs = in_coords.lists;
        read_members = in_members.read;
        read_coords = in_coords.read;
        allowed_members = in_members.each;
        allowed_coords = in_coords.each;
        are = sym (same_rows (durable_records (log_of in_members.lists) (log_of in_coords.lists)) all 1 members
            (λ m low high. same_durable m (low, omega (arith, high)) ∙ same m));
      }

-- ---- what a run left

-- happenings that name nodes of the head, and hand true verdicts where they are handed
pub record MayHappen (members coords : ℕ) (s : Federation) (hs : List Happening) : Type 0 where
  pub own : AreOwn members coords hs
  pub true_there : AreTrueVerdicts hs s

pub own_more : (n k : ℕ) (hs more : List Happening) → AreOwn n k hs → AreOwn n k more → AreOwn n k (hs ++ more)
own_more n k [] more own rest = rest
own_more n k (h ∷ hs) more own rest = (own.0, own_more n k hs more own.1 rest)

lines_true_more : (events : List Event) (more : List Happening) → ((s : Federation) → AreTrueVerdicts more s) → (s : Federation) → AreTrueVerdicts (lines events ++ more) s
lines_true_more [] more rest s = rest s
lines_true_more (e ∷ es) more rest s = (tt, lines_true_more es more rest (step s (happening.Line e)).state)

module _ {resume : Bool} {input : List ℕ} {old : Spot → Option File} (r : Ran resume input old) (file : Spot → Option File) where
  abbrev members : ℕ
  members = length r.head.kinds

  lines_may : MayHappen members r.head.coords (start_of r) (lines r.events)
  lines_may = record { own = all_own r.head r.events r.valid; true_there = lines_true r.events (start_of r) }

  more_may : (more : List Happening) → AreOwn members r.head.coords more → ((s : Federation) → AreTrueVerdicts more s) → MayHappen members r.head.coords (start_of r) (lines r.events ++ more)
  more_may more own handless =
      record {
        own = own_more members r.head.coords (lines r.events) more (all_own r.head r.events r.valid) own;
        true_there = lines_true_more r.events more handless (start_of r);
      }

  pub left_after : (hs : List Happening) → MayHappen members r.head.coords (start_of r) hs → AreLeftAs file (run hs (start_of r)) → AreLeftAfter r hs file
  left_after hs may left =
      let f = fit_after r.head r.found_member r.found_coord r.may hs may.own in
      record {
        left = left;
        logs_alone = λ sound told.
            durable_left file members r.head.coords (run hs (start_of r)) (whole_after r.head r.found_member r.found_coord r.may hs may.own) (ap length f.kinds) f.coordinators left told
            (serial_records (start_of r) (run hs (start_of r)).decided)
            (every_log r.head.kinds r.head.coords r.found_member r.found_coord hs (openable r sound) may.true_there);
        sound_logs = λ sound. every_sound r.head.kinds r.head.coords r.found_member r.found_coord hs (openable r sound) may.true_there;
        may_resume = λ told.
            let s = run hs (start_of r) in
            let both = split_told file (member_nodes members) (coord_nodes r.head.coords) told in
            may_again file r.head.kinds r.head.coords s (whole_after r.head r.found_member r.found_coord r.may hs may.own) (writable_after r.head r.found_member r.found_coord r.may hs may.own)
            (λ m between. left.member m between.0 (omega (arith, between.1, ap length f.kinds)) (told_at file node.Member members m both.0 between))
            (λ c between. left.coord c between.0 (omega (arith, between.1, f.coordinators)) (told_at file node.Coord r.head.coords c both.1 between));
      }

  pub left_by : AreLeftAs file (end_of r) → AreLeftBy r file
  left_by left = left_after (lines r.events) lines_may left

  -- a fault left what was done, or what the event of the next line leaves
  pub left_by_fault : AreLeftAs file (end_of r)
      ⊎ ((event : Event) × HasLine r.head event × ((rest : List ℕ) × IsNext r.head (length r.events) r.rest rest (Some event))
      × (AreLeftAs file (step_line (end_of r) event).state ⊎ AreLeftAs file (step_line (disarmed (end_of r)) event).state)) → AreLeftByFault r file
  left_by_fault (inl before) = record { happened = lines r.events; up_to = inl refl; files = left_by before }
  left_by_fault (inr (event, line, next, inl after)) =
      let more : List Happening = happening.Line event ∷ [] in
      record {
        happened = lines r.events ++ more;
        up_to = inr (event, line, next.0, next.1, inl refl);
        files = left_after (lines r.events ++ more) (more_may more (all_own r.head (event ∷ []) (line, tt)) (λ s. (tt, tt)))
            (subst (AreLeftAs file) (sym (run_more (lines r.events) more (start_of r))) after);
      }
  left_by_fault (inr (event, line, next, inr completed)) =
      let more : List Happening = happening.Disarm ∷ happening.Line event ∷ [] in
      record {
        happened = lines r.events ++ more;
        up_to = inr (event, line, next.0, next.1, inr refl);
        files = left_after (lines r.events ++ more) (more_may more (tt, all_own r.head (event ∷ []) (line, tt)) (λ s. (tt, (tt, tt))))
            (subst (AreLeftAs file) (sym (run_more (lines r.events) more (start_of r))) completed);
      }

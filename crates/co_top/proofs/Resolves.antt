-- How the doubts behind a run over fresh logs are resolved.
use Rattle.std.proofs.Common.{◌≡◌, ◌⊎◌, inl, inr, ℕ, suc, ◌<◌, ◌+◌, false, List, [], ◌∷◌, ◌++◌, length, take, Option, None, Some, Result, Ok, Err, refl, sym, ap, ◌∙◌, subst, append_assoc, append-nil}
use Rattle.std.proofs.Math.Seq.{take-length}
use Rattle.co_cluster.specs.Left.{AreLeftAs}
use Rattle.co_cluster.specs.declared.doubting.Doubt.{Doubt}
use Rattle.co_coop.specs.Consulted.{IsCutAlong}
use Rattle.co_coop.specs.Resolution.{resolution, AreDoubts}
use Rattle.co_coop.specs.Turn.{doubt_turn}
use Rattle.co_coop.proofs.Resolving.{all_own, all_true, listed_homes, run_behind, true_behind}
use Rattle.co_durable.specs.declared.fault.WorldFault.{WorldFault}
use Rattle.co_durable.specs.declared.fault.WorldFault.TheVariants as world
use Rattle.co_outside.specs.Faults.{HasRisen}
use Rattle.co_outside.specs.Home.{File, HomeView}
use Rattle.co_outside.specs.declared.spot.Spot.{Spot}
use Rattle.co_plain.specs.Federation.{Federation}
use Rattle.co_plain.specs.Premises.{AreTrueVerdicts, AreOwn}
use Rattle.co_plain.specs.Runs.{run, lines}
use Rattle.co_plain.specs.declared.happening.Happening.{Happening}
use Rattle.co_settle.specs.Reached.{IsReached}
use Rattle.co_top.specs.Complete.{IsRefusedExactly}
use Rattle.co_top.specs.PlayedOut.{IsEndOfRun}
use Rattle.co_top.specs.Ran.{Ran, end_of, text_of, Wanted}
use Rattle.co_top.specs.Resolving.{AreListed, AreDoneOf, AreLinesOf, HasDoubts, IsKeptAfter, IsTurnFault, IsResolveEnd, IsUnhinderedBehind, Unfinished, Resolved, CutOff, BrokenOff, doubts_text, turns_text}
use Rattle.co_top.specs.Replayed.{status_of}
use Rattle.co_top.specs.Telling.{IsPut, IsPutInPart}
use Rattle.co_top.specs.Turns.{AreAllTold, AreResolved, AreTurnsCut, IsBrokenBehind, IsToldToPart, IsResolvedShort, Unlisted, InTurns, InLines}
use Rattle.co_top.specs.declared.status.LimitKind.TheVariants as limit
use Rattle.co_top.specs.declared.status.Status.{Status}
use Rattle.co_top.specs.declared.status.Status.TheVariants as status
use Rattle.co_top.proofs.Completing.{done_or_wanting}
use Rattle.co_top.proofs.Left.{left_by, own_more}
use Rattle.co_top.proofs.Lists.{take_behind}
use Rattle.co_top.proofs.Refusing.{never_ran, refused_exactly}
use Rattle.co_top.proofs.TurnsLeft.{done_files, done_own, done_true, kept_after, listed_doubts, outgrows, remain_exactly}
use Rattle.co_top.proofs.TurnsTaken.{doubts_apart, may_ask_next}

module _ {H : Type 0} (seen : H → HomeView) (input : List ℕ) (left : Option (List ℕ)) (held : List ℕ) (start end : H) (mid told : Option (List ℕ)) (s : Federation) (number : ℕ)
    (e : IsEndOfRun false input left held (seen start).file mid s number) (from : IsReached s) where
  abbrev old : Spot → Option File
  old = (seen start).file

  abbrev new : Spot → Option File
  new = (seen end).file

  abbrev r : Ran false input old
  r = e.done.ran

  abbrev z : Federation
  z = end_of r

  abbrev last : ℕ
  last = suc (length r.events)

  reached : IsReached z
  reached = subst IsReached (sym e.leaves) from

  abbrev doubtful : (doubts : List Doubt) → AreListed z doubts → HasDoubts input old
  doubtful doubts are = record { ran = r; whole = e.whole; doubts = doubts; are = are }

  -- ---- what is kept

  kept_turns : (turns : List Doubt) → AreDoubts z turns → AreLeftAs new (run (resolution z turns) z) → IsKeptAfter r (lines r.events ++ resolution z turns) new
  kept_turns turns listed files =
      kept_after r (resolution z turns) new (all_own (length r.head.kinds) r.head.coords z turns) (all_true z turns reached (listed_homes z turns reached listed)) files

  module _ (turns : List Doubt) (next : Doubt) (behind : List Doubt) (listed : AreDoubts z (turns ++ next ∷ behind)) (done : List Happening) where
    abbrev y : Federation
    y = run (resolution z turns) z

    abbrev turn : List Happening
    turn = doubt_turn y next

    turn_true : AreTrueVerdicts turn y
    turn_true =
        let may = may_ask_next z turns next behind reached listed in
        subst (λ (hs : List Happening). AreTrueVerdicts hs y) (append-nil turn) (all_true y (next ∷ []) may.0 (may.1.home, tt))

    turn_own : AreOwn (length r.head.kinds) r.head.coords turn
    turn_own = subst (AreOwn (length r.head.kinds) r.head.coords) (append-nil turn) (all_own (length r.head.kinds) r.head.coords y (next ∷ []))

    kept_part : AreDoneOf turn done → AreLeftAs new (run done y) → IsKeptAfter r ((lines r.events ++ resolution z turns) ++ done) new
    kept_part are files =
        let before = resolution z turns in
        let homes = listed_homes z turns reached (doubts_apart z turns (next ∷ behind) listed).0 in
        subst (λ (hs : List Happening). IsKeptAfter r hs new) (sym (append_assoc (lines r.events) before done))
        (kept_after r (before ++ done) new
        (own_more (length r.head.kinds) r.head.coords before done (all_own (length r.head.kinds) r.head.coords z turns) (done_own (length r.head.kinds) r.head.coords turn done are turn_own))
        (true_behind before done z (all_true z turns reached homes) (done_true turn done y are turn_true))
        (subst (AreLeftAs new) (sym (run_behind before done z)) files))

  -- ---- what is told

  before : mid ≡ Some (held ++ text_of r)
  before = e.done.transcript

  whole_text : (turns lines_text : List ℕ) → IsPut (turns ++ lines_text) mid told → told ≡ Some (held ++ ((text_of r ++ turns) ++ lines_text))
  whole_text turns lines_text put =
      put (held ++ text_of r) before
      ∙ ap Some (append_assoc held (text_of r) (turns ++ lines_text) ∙ ap (λ t. held ++ t) (sym (append_assoc (text_of r) turns lines_text)))

  turns_told : (turns : List ℕ) → IsPut turns mid told → told ≡ Some (held ++ (text_of r ++ turns))
  turns_told turns put = put (held ++ text_of r) before ∙ ap Some (append_assoc held (text_of r) turns)

  part_text : (turns lines_text : List ℕ) → IsPutInPart (turns ++ lines_text) mid told → (count : ℕ) × (told ≡ Some (held ++ take count ((text_of r ++ turns) ++ lines_text)))
  part_text turns lines_text put =
      let cut = put (held ++ text_of r) before in (
        length (text_of r) + cut.0,
        cut.1 ∙ ap Some (
            append_assoc held (text_of r) (take cut.0 (turns ++ lines_text))
            ∙ ap (λ t. held ++ t) (sym (take_behind (text_of r) (turns ++ lines_text) cut.0) ∙ ap (take (length (text_of r) + cut.0)) (sym (append_assoc (text_of r) turns lines_text)))),
      )

  -- ---- how it ends

  all_done : AreAllTold z last mid told new → IsResolveEnd seen input left held told start end status.Done
  all_done a =
      Resolved
      (record {
        doubtful = doubtful a.doubts a.are;
        remaining = a.remaining;
        are = a.remain;
        exactly = remain_exactly z a.doubts reached a.are;
        kept = kept_turns a.doubts (listed_doubts z a.doubts a.are) a.left;
        transcript = whole_text (turns_text last z a.doubts) (doubts_text a.remaining) a.put;
      })
      e.done.streamed refl

  module _ (doubts : List Doubt) (are : AreListed z doubts) where
    listed : AreDoubts z doubts
    listed = listed_doubts z doubts are

    told_short : (why : Status) → (why ≡ status.Write) ⊎ (why ≡ status.Memory) → IsToldToPart z last doubts mid told new → IsResolveEnd seen input left held told start end why
    told_short why is p =
        let cut = part_text (turns_text last z p.turns) [] (subst (λ (t : List ℕ). IsPutInPart t mid told) (sym (append-nil (turns_text last z p.turns))) p.put) in
        CutOff
        (record {
          doubtful = doubtful doubts are;
          turns = p.turns;
          behind = p.behind;
          parts = p.parts;
          remaining = [];
          are = inl refl;
          kept = kept_turns p.turns (doubts_apart z p.turns p.behind (subst (AreDoubts z) (sym p.parts) listed)).0 p.left;
          count = cut.0;
          transcript = cut.1;
        })
        e.done.streamed is

    in_lines : (remaining : List Doubt) (why : Status) → (why ≡ status.Write) ⊎ (why ≡ status.Memory) → (remaining ≡ []) ⊎ AreListed (run (resolution z doubts) z) remaining →
        IsPutInPart (turns_text last z doubts ++ doubts_text remaining) mid told → AreLeftAs new (run (resolution z doubts) z) → IsResolveEnd seen input left held told start end why
    in_lines remaining why is remain put files =
        let cut = part_text (turns_text last z doubts) (doubts_text remaining) put in
        CutOff
        (record {
          doubtful = doubtful doubts are;
          turns = doubts;
          behind = [];
          parts = append-nil doubts;
          remaining = remaining;
          are = lines_of remain;
          kept = kept_turns doubts listed files;
          count = cut.0;
          transcript = cut.1;
        })
        e.done.streamed is
      where
        lines_of : (remaining ≡ []) ⊎ AreListed (run (resolution z doubts) z) remaining → AreLinesOf (doubtful doubts are) doubts remaining
        lines_of (inl none) = inl none
        lines_of (inr some) = inr (refl, some)

    broken_off : (why : Status) (fault : WorldFault) → (b : IsBrokenBehind z last doubts mid told new fault) →
        (IsCutAlong (doubt_turn (run (resolution z b.turns) z) b.next) (run (resolution z b.turns) z) new fault → IsTurnFault (doubtful doubts are) why) → IsResolveEnd seen input left held told start end why
    broken_off why fault b cause =
        let y = run (resolution z b.turns) z in
        let d = done_files (doubt_turn y b.next) y new fault b.cut in
        BrokenOff
        (record {
          doubtful = doubtful doubts are;
          turn = record { turns = b.turns; next = b.next; behind = b.behind; parts = b.parts };
          done = d.0;
          are = d.1;
          kept = kept_part b.turns b.next b.behind (subst (AreDoubts z) (sym b.parts) listed) d.0 d.1 d.2;
          transcript = turns_told (turns_text last z b.turns) b.put;
        })
        e.done.streamed (cause b.cut)

    in_turns : (why : Status) → ((spot : Spot) (at : ℕ) (kept read : Option ℕ) → why ≡ status.Differs spot at kept read → (old spot ≡ None) × (spot.part < 2)) →
        AreTurnsCut z last doubts mid told new why → IsResolveEnd seen input left held told start end why
    in_turns status.Write differs p = told_short status.Write (inl refl) p
    in_turns status.Memory differs (inl b) = broken_off status.Memory world.Memory b (λ cut. tt)
    in_turns status.Memory differs (inr p) = told_short status.Memory (inr refl) p
    in_turns (status.Device spot) differs b = broken_off (status.Device spot) (world.Device spot) b (λ cut. tt)
    in_turns (status.Differs spot at kept read) differs b = broken_off (status.Differs spot at kept read) (world.Differs spot at kept read) b (λ cut. differs spot at kept read refl)
    in_turns (status.Limit (limit.Log spot)) differs b =
        broken_off (status.Limit (limit.Log spot)) (world.Full spot) b
        (λ cut. (record { turns = b.turns; next = b.next; behind = b.behind; parts = b.parts }, outgrows (doubt_turn (run (resolution z b.turns) z) b.next) (run (resolution z b.turns) z) new spot cut))
    in_turns _ differs p = absurd p

  unlisted : told ≡ mid → AreLeftAs new z → IsResolveEnd seen input left held told start end status.Memory
  unlisted same files =
      Unfinished
      (Wanted
      (record {
        ran = r;
        streamed = e.done.streamed;
        promises = e.done.promises;
        count = length (text_of r);
        transcript = same ∙ before ∙ ap (λ t. Some (held ++ t)) (sym (take-length (text_of r)));
      })
      (record { happened = lines r.events; up_to = inl refl; files = left_by r new files }) refl)
      (λ is. let w : status.Memory ≡ status.Done = is in cc)

  cut_short : (why : Status) → ((spot : Spot) (at : ℕ) (kept read : Option ℕ) → why ≡ status.Differs spot at kept read → (old spot ≡ None) × (spot.part < 2)) → IsResolvedShort z last mid told new why →
      IsResolveEnd seen input left held told start end why
  cut_short why differs (Unlisted is same files) = subst (IsResolveEnd seen input left held told start end) (sym is) (unlisted same files)
  cut_short why differs (InTurns doubts are cut) = in_turns doubts are why differs cut
  cut_short why differs (InLines doubts remaining are remain put files is) = in_lines doubts are remaining why is remain put files

  pub resolve_ends : (result : Result (Unit {0}) Status) → ((spot : Spot) (at : ℕ) (kept read : Option ℕ) → result ≡ Err (status.Differs spot at kept read) → (old spot ≡ None) × (spot.part < 2)) →
      AreResolved s number mid told new result → IsResolveEnd seen input left held told start end (status_of result)
  resolve_ends (Ok u) differs a = all_done (subst (λ n. AreAllTold z n mid told new) e.last (subst (λ v. AreAllTold v number mid told new) (sym e.leaves) a))
  resolve_ends (Err why) differs a =
      cut_short why (λ spot at kept read is. differs spot at kept read (ap Err is))
      (subst (λ n. IsResolvedShort z n mid told new why) e.last (subst (λ v. IsResolvedShort v number mid told new why) (sym e.leaves) a))

-- ---- the statuses

-- the statuses behind a schedule that was done
abbrev pub IsOfTurns : Status → Type 0
IsOfTurns status.Done = Unit {0}
IsOfTurns status.Write = Unit {0}
IsOfTurns (status.Device spot) = Unit {0}
IsOfTurns (status.Differs spot at kept read) = Unit {0}
IsOfTurns (status.Limit what) = Unit {0}
IsOfTurns status.Memory = Unit {0}
IsOfTurns _ = ⊥

cut_own : (s : Federation) (number : ℕ) (doubts : List Doubt) (held told : Option (List ℕ)) (file : Spot → Option File) (why : Status) → AreTurnsCut s number doubts held told file why → IsOfTurns why
cut_own s number doubts held told file status.Write p = tt
cut_own s number doubts held told file status.Memory p = tt
cut_own s number doubts held told file (status.Device spot) p = tt
cut_own s number doubts held told file (status.Differs spot at kept read) p = tt
cut_own s number doubts held told file (status.Limit (limit.Log spot)) p = tt
cut_own s number doubts held told file _ p = absurd p

pub resolved_own : (s : Federation) (number : ℕ) (held told : Option (List ℕ)) (file : Spot → Option File) (result : Result (Unit {0}) Status) → AreResolved s number held told file result → IsOfTurns (status_of result)
resolved_own s number held told file (Ok u) a = tt
resolved_own s number held told file (Err why) (Unlisted wants same files) = subst IsOfTurns (sym wants) tt
resolved_own s number held told file (Err why) (InTurns doubts are cut) = cut_own s number doubts held told file why cut
resolved_own s number held told file (Err why) (InLines doubts remaining are remain put files (inl e)) = subst IsOfTurns (sym e) tt
resolved_own s number held told file (Err why) (InLines doubts remaining are remain put files (inr e)) = subst IsOfTurns (sym e) tt

-- a status that is not that of what was done is an error
pub error_of : {A : Type 0} (o : Result A Status) (why : Status) → (why ≡ status.Done → ⊥) → status_of o ≡ why → o ≡ Err why
error_of (Ok a) why other is = absurd (other (sym is))
error_of (Err e) why other is = ap Err is

pub status_is : {A : Type 0} (o : Result A Status) (why : Status) → o ≡ Err why → status_of o ≡ why
status_is o why is = ap status_of is

-- ---- where nothing hinders it, and where the logs are refused

module _ {H : Type 0} (seen : H → HomeView) (input : List ℕ) (left : Option (List ℕ)) (held : List ℕ) (told : Option (List ℕ)) (old new : H) where
  pub resolve_refused : (ended : Status) → IsResolveEnd seen input left held told old new ended → IsRefusedExactly false input (seen old).file ended
  resolve_refused ended (Unfinished ran other) = refused_exactly seen false input left held told old new ended ran
  resolve_refused ended (Resolved done streamed is) = λ head text headed are why of refused. absurd (never_ran seen false input held left told old new head text headed are why of refused done.doubtful.ran)
  resolve_refused ended (CutOff done streamed is) = λ head text headed are why of refused. absurd (never_ran seen false input held left told old new head text headed are why of refused done.doubtful.ran)
  resolve_refused ended (BrokenOff done streamed cause) = λ head text headed are why of refused. absurd (never_ran seen false input held left told old new head text headed are why of refused done.doubtful.ran)

  pub resolved_or_wanting : (a b c d e f : ℕ) (ended : Status) → (ended ≡ status.Read → HasRisen a b) → (ended ≡ status.Write → HasRisen c d) → ((spot : Spot) → ended ≡ status.Device spot → HasRisen e f) →
      IsResolveEnd seen input left held told old new ended → IsUnhinderedBehind input (seen old).file a b c d e f → (ended ≡ status.Done) ⊎ (ended ≡ status.Memory)
  resolved_or_wanting a b c d e f ended read write device (Unfinished ran other) u = done_or_wanting seen false input left held told old new a b c d e f ended read write device ran u.before
  resolved_or_wanting a b c d e f ended read write device (Resolved done streamed is) u = inl is
  resolved_or_wanting a b c d e f ended read write device (CutOff done streamed (inl is)) u = absurd (u.before.out (write is))
  resolved_or_wanting a b c d e f ended read write device (CutOff done streamed (inr is)) u = inr is
  resolved_or_wanting a b c d e f ended read write device (BrokenOff done streamed cause) u = by ended refl cause
    where
      by : (s : Status) → ended ≡ s → IsTurnFault done.doubtful s → (ended ≡ status.Done) ⊎ (ended ≡ status.Memory)
      by (status.Device spot) is fault = absurd (u.before.home (device spot is))
      by (status.Differs spot at kept got) is fault = absurd (u.before.told spot fault.1 fault.0)
      by (status.Limit (limit.Log spot)) is fault = absurd (u.room done.doubtful spot fault)
      by status.Memory is fault = inr is
      by _ is fault = absurd fault

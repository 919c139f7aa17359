-- How turns are done and told, one behind another.
use Rattle.std.proofs.Common.{◌≡◌, inl, inr, ℕ, suc, ◌+◌, List, [], ◌∷◌, ◌++◌, length, take, drop, get_or, ◌<◌, Option, Some, Ok, Err, refl, sym, ap, ◌∙◌, subst, append_assoc, append-nil, drop-cons}
use Rattle.std.proofs.lemmas.List.{take-append-drop, take_more}
use Rattle.co_base.specs.declared.head.Kind.{Kind}
use Rattle.co_cluster.specs.Left.{AreLeftAs}
use Rattle.co_cluster.specs.declared.doubting.Doubt.{Doubt}
use Rattle.co_coop.specs.Consulted.{IsCutAlong, FaultLeaves}
use Rattle.co_coop.specs.Resolution.{resolution, AreDoubts}
use Rattle.co_coop.specs.Turn.{MayAsk, doubt_turn}
use Rattle.co_coop.proofs.Resolving.{all_reach, homes_on, listed_homes, turn_keeps, run_behind}
use Rattle.co_durable.specs.declared.fault.WorldFault.{WorldFault}
use Rattle.co_durable.specs.declared.fault.WorldFault.TheVariants as world
use Rattle.co_law_coop.specs.Consulting.{transcript_along}
use Rattle.co_law_coop.proofs.Keeping.{Keeps, keeps_all, keeps_on}
use Rattle.co_message.specs.declared.item.Item.{Item}
use Rattle.co_opening.specs.Rest.{OnlyOwnFilesChange}
use Rattle.co_opening.proofs.Rests.{changes_on}
use Rattle.co_outside.specs.Home.{File, HomeView, IsClean}
use Rattle.co_outside.specs.declared.spot.Spot.{Spot}
use Rattle.co_plain.specs.Federation.{Federation}
use Rattle.co_plain.specs.Numbers.{IsAmong}
use Rattle.co_plain.specs.Runs.{run}
use Rattle.co_replay.specs.Transcript.{items_text}
use Rattle.co_settle.specs.Progress as settle
use Rattle.co_settle.specs.Reached.{IsReached}
use Rattle.co_state.specs.declared.engine_state.EngineState.{EngineState}
use Rattle.co_world.specs.Standing.{RepresentsWorld, AreHeld}
use Rattle.co_world.specs.declared.world.World.{World}
use Rattle.co_world.proofs.Nodes.{held_left}
use Rattle.co_top.specs.Ends.{of_world}
use Rattle.co_top.specs.Resolving.{turns_text}
use Rattle.co_top.specs.Running.{IsBetween}
use Rattle.co_top.specs.Telling.{IsPut, IsPutInPart, IsTextPut, HasEnded}
use Rattle.co_top.specs.Turns.{number_along, last_number, turn_text, IsUndone, IsToldShort, IsTurnTold, IsBrokenBehind, IsToldToPart, AreTurnsCut}
use Rattle.co_top.specs.declared.status.LimitKind.TheVariants as limit
use Rattle.co_top.specs.declared.status.Status.{Status}
use Rattle.co_top.specs.declared.status.Status.TheVariants as status
use Rattle.co_top.proofs.Lists.{take_behind}
use Rattle.co_top.proofs.TurnsAlong.{last_along, state_more, number_more, text_more}

-- ---- one turn

-- the fault of a consultation, as a status
pub undone_told : {E : Type 0} (takes : Kind → Type 0) (stands_for : E → EngineState → Type 0) (s : Federation) (number : ℕ) (doubt : Doubt) (held : Option (List ℕ)) (old new : HomeView) (w : World E) (fault : WorldFault) →
    settle.HasEnded fault old new → IsCutAlong (doubt_turn s doubt) s new.file fault → IsTurnTold takes stands_for s number doubt held held new w (Err (of_world fault))
undone_told takes stands_for s number doubt held old new w (world.Device spot) h cut = (refl, cut)
undone_told takes stands_for s number doubt held old new w (world.Differs spot at kept read) h cut = (refl, cut)
undone_told takes stands_for s number doubt held old new w (world.InUse spot) h cut = absurd h
undone_told takes stands_for s number doubt held old new w (world.Bad spot at) h cut = absurd h
undone_told takes stands_for s number doubt held old new w (world.Full spot) h cut = (refl, cut)
undone_told takes stands_for s number doubt held old new w world.Count h cut = absurd h
undone_told takes stands_for s number doubt held old new w (world.Old spot) h cut = absurd h
undone_told takes stands_for s number doubt held old new w world.Memory h cut = inl (refl, cut)

-- how the directory ended then
pub undone_ended : (old new : HomeView) (fault : WorldFault) → settle.HasEnded fault old new → FaultLeaves old new fault → HasEnded old new (of_world fault)
undone_ended old new (world.Device spot) h f = h
undone_ended old new (world.Differs spot at kept read) h f = (h, f.0, f.1)
undone_ended old new (world.InUse spot) h f = absurd h
undone_ended old new (world.Bad spot at) h f = absurd h
undone_ended old new (world.Full spot) h f = h
undone_ended old new world.Count h f = absurd h
undone_ended old new (world.Old spot) h f = absurd h
undone_ended old new world.Memory h f = h

pub undone_clean : (old new : HomeView) (fault : WorldFault) → settle.HasEnded fault old new → FaultLeaves old new fault → IsBetween (of_world fault) → (s : Spot) → IsClean old s → IsClean new s
undone_clean old new (world.Device spot) h f between = absurd between
undone_clean old new (world.Differs spot at kept read) h f between = absurd between
undone_clean old new (world.InUse spot) h f between = absurd h
undone_clean old new (world.Bad spot at) h f between = absurd h
undone_clean old new (world.Full spot) h f between = f
undone_clean old new world.Count h f between = absurd h
undone_clean old new (world.Old spot) h f between = absurd h
undone_clean old new world.Memory h f between = absurd between

module _ {E : Type 0} (takes : Kind → Type 0) (stands_for : E → EngineState → Type 0) (s : Federation) (number : ℕ) (doubt : Doubt) (held told : Option (List ℕ)) (home : HomeView) (w : World E) (items : List Item)
    (are : items ≡ transcript_along (suc number) (doubt_turn s doubt) s) (stands : RepresentsWorld takes stands_for w (run (doubt_turn s doubt) s)) (kept : AreHeld home w) where
  left : AreLeftAs home.file (run (doubt_turn s doubt) s)
  left = held_left takes stands_for w (run (doubt_turn s doubt) s) home stands kept

  pub whole_told : IsTextPut (items_text items) held told (Ok tt) → IsTurnTold takes stands_for s number doubt held told home w (Ok (last_number number items))
  whole_told put = (
    ap (λ (xs : List Item). suc (last_number number xs)) are ∙ last_along (suc number) number (doubt_turn s doubt) s refl,
    subst (λ (xs : List Item). IsPut (items_text xs) held told) are put,
    stands,
    kept,
  )

  pub short_told : (why : Status) → IsTextPut (items_text items) held told (Err why) → IsTurnTold takes stands_for s number doubt held told home w (Err why)
  short_told status.Write put = (subst (λ (xs : List Item). IsPutInPart (items_text xs) held told) are put, left)
  short_told status.Memory put = inr (subst (λ (xs : List Item). IsPutInPart (items_text xs) held told) are put, left)
  short_told _ put = absurd put

-- ---- one more turn

-- the states of turns

pub turns_keep : (s : Federation) (turns : List Doubt) → Keeps s (run (resolution s turns) s)
turns_keep s [] = keeps_all s
turns_keep s (x ∷ turns) =
    let z = run (doubt_turn s x) s in
    subst (Keeps s) (sym (run_behind (doubt_turn s x) (resolution z turns) s)) (keeps_on s z (run (resolution z turns) z) (turn_keeps s x) (turns_keep z turns))

pub doubts_apart : (s : Federation) (turns behind : List Doubt) → AreDoubts s (turns ++ behind) → AreDoubts s turns × AreDoubts s behind
doubts_apart s [] behind a = (tt, a)
doubts_apart s (x ∷ turns) behind a = let rest = doubts_apart s turns behind a.1 in ((a.0, rest.0), rest.1)

-- behind some turns the next member may ask
pub may_ask_next : (s : Federation) (turns : List Doubt) (next : Doubt) (behind : List Doubt) → IsReached s → AreDoubts s (turns ++ next ∷ behind) → IsReached (run (resolution s turns) s) × MayAsk (run (resolution s turns) s) next
may_ask_next s turns next behind r listed =
    let a = doubts_apart s turns (next ∷ behind) listed in
    let k = turns_keep s turns in (
      all_reach s turns r (listed_homes s turns r a.0),
      record {
        asker = subst (λ ks. IsAmong next.member (length ks)) (sym k.kinds) a.1.0.own;
        home = (homes_on s (run (resolution s turns) s) k (next ∷ behind) (listed_homes s (next ∷ behind) r a.1)).0;
      },
    )

module _ (s : Federation) (number last : ℕ) (doubts turns : List Doubt) (next : Doubt) (behind : List Doubt) (parts : turns ++ next ∷ behind ≡ doubts) (held mid told : Option (List ℕ))
    (counted : suc last ≡ number_along (suc number) (resolution s turns) s) (put : IsPut (turns_text number s turns) held mid) where
  abbrev z : Federation
  z = run (resolution s turns) s

  abbrev text : List ℕ
  text = turns_text number s turns

  pub put_more : IsPut (turn_text last z next) mid told → IsPut (turns_text number s (turns ++ next ∷ [])) held told
  put_more one h e = one (h ++ text) (put h e) ∙ ap Some (append_assoc h text (turn_text last z next) ∙ ap (λ t. h ++ t) (sym (text_more s number last turns next counted)))

  pub count_on : (after : ℕ) → suc after ≡ number_along (suc last) (doubt_turn z next) z → suc after ≡ number_along (suc number) (resolution s (turns ++ next ∷ [])) s
  count_on after is = is ∙ ap (λ n. number_along n (doubt_turn z next) z) counted ∙ sym (number_more s number last turns next)

  part_more : IsPutInPart (turn_text last z next) mid told → IsPutInPart (turns_text number s (turns ++ next ∷ [])) held told
  part_more one h e =
      let cut = one (h ++ text) (put h e) in (
        length text + cut.0,
        cut.1 ∙ ap Some (
            append_assoc h text (take cut.0 (turn_text last z next))
            ∙ ap (λ t. h ++ t) (sym (take_behind text (turn_text last z next) cut.0) ∙ ap (take (length text + cut.0)) (sym (text_more s number last turns next counted)))),
      )

  broken : (file : Spot → Option File) (fault : WorldFault) → IsUndone z next mid told file fault → IsBrokenBehind s number doubts held told file fault
  broken file fault u = record { turns = turns; next = next; behind = behind; parts = parts; put = λ h e. u.0 ∙ put h e; cut = u.1 }

  short : (file : Spot → Option File) → IsToldShort last z next mid told file → IsToldToPart s number doubts held told file
  short file p =
      record {
        turns = turns ++ next ∷ [];
        behind = behind;
        parts = append_assoc turns (next ∷ []) behind ∙ parts;
        put = part_more p.0;
        left = subst (AreLeftAs file) (sym (state_more s number last turns next)) p.1;
      }

  -- a turn that was not done or not told cuts them
  pub cut_by : {E : Type 0} (takes : Kind → Type 0) (stands_for : E → EngineState → Type 0) (home : HomeView) (w : World E) (why : Status) → IsTurnTold takes stands_for z last next mid told home w (Err why) → AreTurnsCut s number doubts held told home.file why
  cut_by takes stands_for home w status.Write p = short home.file p
  cut_by takes stands_for home w status.Memory (inl u) = inl (broken home.file world.Memory u)
  cut_by takes stands_for home w status.Memory (inr p) = inr (short home.file p)
  cut_by takes stands_for home w (status.Device spot) u = broken home.file (world.Device spot) u
  cut_by takes stands_for home w (status.Differs spot at kept read) u = broken home.file (world.Differs spot at kept read) u
  cut_by takes stands_for home w (status.Limit (limit.Log spot)) u = broken home.file (world.Full spot) u
  cut_by takes stands_for home w _ p = absurd p

-- where no doubt is
pub nothing_put : (s : Federation) (number : ℕ) (held : Option (List ℕ)) → IsPut (turns_text number s []) held held
nothing_put s number held h e = e ∙ ap Some (sym (append-nil h))

-- ---- turns behind one another

-- these turns were done and told
pub record AreTurnsBehind {E : Type 0} (takes : Kind → Type 0) (stands_for : E → EngineState → Type 0) (s : Federation) (number : ℕ) (turns : List Doubt) (held told : Option (List ℕ)) (old new : HomeView) (w : World E) (last : ℕ) : Type 0 where
  pub counted : suc last ≡ number_along (suc number) (resolution s turns) s
  pub put : IsPut (turns_text number s turns) held told
  pub stands : RepresentsWorld takes stands_for w (run (resolution s turns) s)
  pub kept : AreHeld new w
  pub rest : OnlyOwnFilesChange (length s.kinds) s.coordinators old new

pub next_parts : (doubts : List Doubt) (i : ℕ) (next : Doubt) → i < length doubts → next ≡ get_or doubts i next → take i doubts ++ next ∷ drop (suc i) doubts ≡ doubts
next_parts doubts i next within is =
    ap (λ d. take i doubts ++ d ∷ drop (suc i) doubts) is ∙ ap (λ (ds : List Doubt). take i doubts ++ ds) (sym (drop-cons doubts i next within)) ∙ take-append-drop i doubts

pub next_taken : (doubts : List Doubt) (i : ℕ) (next : Doubt) → i < length doubts → next ≡ get_or doubts i next → take i doubts ++ next ∷ [] ≡ take (i + 1) doubts
next_taken doubts i next within is = ap (λ d. take i doubts ++ d ∷ []) is ∙ sym (take_more doubts i next within)

-- two federations that one world stands for have the same nodes
pub same_nodes : {E : Type 0} (takes : Kind → Type 0) (stands_for : E → EngineState → Type 0) (w : World E) (s z : Federation) (old new : HomeView) → RepresentsWorld takes stands_for w s → RepresentsWorld takes stands_for w z →
    OnlyOwnFilesChange (length z.kinds) z.coordinators old new → OnlyOwnFilesChange (length s.kinds) s.coordinators old new
same_nodes takes stands_for w s z old new r q rest =
    subst (λ k. OnlyOwnFilesChange (length s.kinds) k old new) (sym q.cluster.coordinators ∙ r.cluster.coordinators)
    (subst (λ m. OnlyOwnFilesChange m z.coordinators old new) (sym q.cluster.kinds ∙ r.cluster.kinds) rest)

module _ {E : Type 0} (takes : Kind → Type 0) (stands_for : E → EngineState → Type 0) (s : Federation) (number : ℕ) (turns : List Doubt) (held mid : Option (List ℕ)) (old home : HomeView) (w : World E) (last : ℕ)
    (b : AreTurnsBehind takes stands_for s number turns held mid old home w last) (new : HomeView) where
  rest_behind : OnlyOwnFilesChange (length (run (resolution s turns) s).kinds) (run (resolution s turns) s).coordinators home new → OnlyOwnFilesChange (length s.kinds) s.coordinators home new
  rest_behind rest =
      let k = turns_keep s turns in
      subst (λ n. OnlyOwnFilesChange (length s.kinds) n home new) k.coordinators (subst (λ ks. OnlyOwnFilesChange (length ks) (run (resolution s turns) s).coordinators home new) k.kinds rest)

  pub rest_more : OnlyOwnFilesChange (length (run (resolution s turns) s).kinds) (run (resolution s turns) s).coordinators home new → OnlyOwnFilesChange (length s.kinds) s.coordinators old new
  rest_more rest = changes_on (length s.kinds) s.coordinators old home new b.rest (rest_behind rest)

  pub behind_more : (doubts : List Doubt) (next : Doubt) (behind : List Doubt) → turns ++ next ∷ behind ≡ doubts → (told : Option (List ℕ)) (v : World E) (after : ℕ) →
      IsTurnTold takes stands_for (run (resolution s turns) s) last next mid told new v (Ok after) →
      OnlyOwnFilesChange (length (run (resolution s turns) s).kinds) (run (resolution s turns) s).coordinators home new → AreTurnsBehind takes stands_for s number (turns ++ next ∷ []) held told old new v after
  behind_more doubts next behind parts told v after one rest =
      record {
        counted = count_on s number last doubts turns next behind parts held mid told b.counted b.put after one.0;
        put = put_more s number last doubts turns next behind parts held mid told b.counted b.put one.1;
        stands = subst (RepresentsWorld takes stands_for v) (sym (state_more s number last turns next)) one.2;
        kept = one.3;
        rest = rest_more rest;
      }

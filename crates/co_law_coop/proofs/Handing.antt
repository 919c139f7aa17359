-- A verdict that the other member gives is true.
use Rattle.std.proofs.Common.{◌≡◌, ◌⊎◌, inl, inr, ℕ, Bool, true, false, ◌||◌, ◌==◌, ◌≤◌, List, [], ◌∷◌, ◌++◌, if◌then◌else◌, Option, None, Some, refl, sym, ap, ◌∙◌, subst, arith}
use Rattle.std.proofs.lemmas.Bool.{and_parts, or_cases, or_left, eqb-true, false_from_ne_true}
use Rattle.std.proofs.lemmas.Bool.Decides.{nat_tests}
use Rattle.co_base.specs.declared.node.Node.TheVariants as node
use Rattle.co_message.specs.declared.event.Event.TheVariants as event
use Rattle.co_state.specs.Table.{look, holds}
use Rattle.co_plain.specs.declared.coord_state.Entry.{Entry}
use Rattle.co_plain.specs.declared.coord_state.Entry.TheVariants as entry
use Rattle.co_plain.specs.declared.happening.Happening.TheVariants as happening
use Rattle.co_plain.specs.declared.session.Decided.{Decided}
use Rattle.co_plain.specs.declared.standing.Standing.{Standing}
use Rattle.co_plain.specs.declared.standing.Standing.TheVariants.{IsActive, IsVoted, IsInstalled, IsAbsent}
use Rattle.co_plain.specs.AllInvariants.{AllInvariants}
use Rattle.co_plain.specs.CoordStep.{members_of}
use Rattle.co_plain.specs.CoordView.{has_commit_of}
use Rattle.co_plain.specs.Decisions.{is_decided, is_asked, told_of, BelongsTo, IsPresumedAborted, AtCoordinator, IsSettled, InThisRun, InOpenedFile}
use Rattle.co_plain.specs.Federation.{Federation}
use Rattle.co_plain.specs.Invariants.{Memory, view, stands}
use Rattle.co_plain.specs.MemberStep.{standing_of, standing_by}
use Rattle.co_plain.specs.Numbers.{has_number}
use Rattle.co_plain.specs.Premises.{AreTrueVerdicts}
use Rattle.co_plain.specs.Sessions.{count_at, parts_of}
use Rattle.co_law_base.proofs.KeptTold.{told_begun}
use Rattle.co_law_base.proofs.Lookups.{holds_found}
use Rattle.co_law_base.proofs.Sending.{told_parts, part_member}
use Rattle.co_law_node.specs.WholeNodes.{AreWhole}
use Rattle.co_law_node.proofs.CoordLaws.{commits_alone_down}
use Rattle.co_law.proofs.EveryFinal.{every_presumed}
use Rattle.co_law_coop.specs.declared.told.Told.{Told}
use Rattle.co_law_coop.specs.declared.told.Told.TheVariants as told
use Rattle.co_law_coop.specs.Consulting.{is_in_doubt, told_unvoted, told_standing, told_at_turn, letting_go, done_for, consultation}

-- a decided transaction stands somewhere among the decisions
pub decided_place : (ds : List Decided) (t : ℕ) → is_decided ds t ≡ true → (d : Decided) × (later : List Decided) × (earlier : List Decided) × (ds ≡ later ++ d ∷ earlier) × (d.txn ≡ t)
decided_place [] t h = absurd (let z : false ≡ true = h in cc)
decided_place (d ∷ ds) t h = by (decided_place ds t) (or_cases (d.txn == t) (is_decided ds t) h)
  where
    by : (is_decided ds t ≡ true → (e : Decided) × (later : List Decided) × (earlier : List Decided) × (ds ≡ later ++ e ∷ earlier) × (e.txn ≡ t)) →
        ((d.txn == t) ≡ true) ⊎ (is_decided ds t ≡ true) → (e : Decided) × (later : List Decided) × (earlier : List Decided) × (d ∷ ds ≡ later ++ e ∷ earlier) × (e.txn ≡ t)
    by rest (inl q) = (d, [], ds, refl, eqb-true d.txn t q)
    by rest (inr q) = let p = rest q in (p.0, d ∷ p.1, p.2, ap (λ xs. d ∷ xs) p.3, p.4)

-- what a standing says of the sets of a member
installed_by : (a v k : Bool) → standing_by a v k ≡ IsInstalled → k ≡ true
installed_by true v k e = absurd (let z : IsActive ≡ IsInstalled = e in cc)
installed_by false true k e = absurd (let z : IsVoted ≡ IsInstalled = e in cc)
installed_by false false true e = refl
installed_by false false false e = absurd (let z : IsAbsent ≡ IsInstalled = e in cc)

active_by : (a v k : Bool) → standing_by a v k ≡ IsActive → a ≡ true
active_by true v k e = refl
active_by false true k e = absurd (let z : IsVoted ≡ IsActive = e in cc)
active_by false false true e = absurd (let z : IsInstalled ≡ IsActive = e in cc)
active_by false false false e = absurd (let z : IsAbsent ≡ IsActive = e in cc)

absent_by : (a v k : Bool) → standing_by a v k ≡ IsAbsent → (v || k) ≡ false
absent_by true v k e = absurd (let z : IsActive ≡ IsAbsent = e in cc)
absent_by false true k e = absurd (let z : IsVoted ≡ IsAbsent = e in cc)
absent_by false false true e = absurd (let z : IsInstalled ≡ IsAbsent = e in cc)
absent_by false false false e = refl

some_told : (n : ℕ) → (n == 0) ≡ false → 1 ≤ n
some_told n h = grind (arith, nat_tests, h)

module _ (members coords : ℕ) (s : Federation) (i : AllInvariants s) (w : AreWhole members coords s) (t m c other : ℕ) (b : BelongsTo s t c) where
  -- where it is committed at the other member it is settled
  commit_true : holds (s.member other).committed t ≡ true → IsSettled s t
  commit_true h = by (or_cases (is_decided s.decided t) (has_commit_of (s.opened_coord c) t) ((i.views other Memory).settled t c h b))
    where
      by : (is_decided s.decided t ≡ true) ⊎ (has_commit_of (s.opened_coord c) t ≡ true) → IsSettled s t
      by (inl d) = InThisRun d
      by (inr k) = InOpenedFile c k

  -- Where the other member took part and has it nowhere, and its coordinator is down, it is presumed aborted.
  module _ (doubt : stands (view Memory (s.member m)) t ≡ true) (away : stands (view Memory (s.member other)) t ≡ false)
      (took : 1 ≤ count_at (told_of s t) other) (down : (s.coord c).up ≡ false) where
    begun : holds s.sessions t ≡ true
    begun = told_begun (look s.sessions t) other took

    not_there : stands (view Memory (s.member other)) t ≡ true → ⊥
    not_there h = let z : true ≡ false = sym h ∙ away in cc

    -- its coordinator has it no more: a commit that waits there would name the other member, at which it would stand
    not_in_table : look (s.coord c).table t ≡ None
    not_in_table = by (look (s.coord c).table t) refl
      where
        by : (o : Option Entry) → look (s.coord c).table t ≡ o → look (s.coord c).table t ≡ None
        by None e = e
        by (Some x) e = absurd (now (commits_alone_down members (s.coord c) (w.coord c) down t x e))
          where
            now : (ms : List ℕ) × (acks : List ℕ) × (x ≡ entry.Committed ms acks) → ⊥
            now (ms, acks, q) =
                let recorded = ((i.tables c).committed t ms acks (e ∙ ap Some q)).recorded in
                let is : ms ≡ members_of (parts_of (told_of s t)) = i.commits.parts c t ms recorded begun in
                let named : has_number ms other ≡ true = ap (λ ns. has_number ns other) is ∙ part_member (parts_of (told_of s t)) other ∙ told_parts (told_of s t) other took in
                not_there (i.commits.unended t c other ms Memory recorded named)

    -- it was not decided: at its decision it held operations at the member in doubt, so those at the other one too
    not_decided : is_decided s.decided t ≡ true → ⊥
    not_decided h = by (decided_place s.decided t h)
      where
        by : (d : Decided) × (later : List Decided) × (earlier : List Decided) × (s.decided ≡ later ++ d ∷ earlier) × (d.txn ≡ t) → ⊥
        by (d, later, earlier, at, is) = now (i.sessions.decided_kept d later earlier at)
          where
            now : (d.told ≡ []) ⊎ ((told_of s d.txn ≡ d.told) × (is_asked s d.txn ≡ true)) → ⊥
            now (inl none) =
                let held : 1 ≤ count_at d.told m = i.standers_told.decided d later earlier at m (ap (stands (view Memory (s.member m))) is ∙ doubt) in
                let z : 1 ≤ 0 = subst (λ os. 1 ≤ count_at os m) none held in
                omega (arith, z)
            now (inr k) =
                let held : 1 ≤ count_at d.told other = subst (λ os. 1 ≤ count_at os other) (sym (ap (told_of s) is) ∙ k.0) took in
                not_there (sym (ap (stands (view Memory (s.member other))) is) ∙ (i.serial other Memory).decided_stand d later earlier at held)

    not_opened : has_commit_of (s.opened_coord c) t ≡ true → ⊥
    not_opened h = let z : true ≡ false = sym ((i.tables c).opened t h) ∙ i.asked.begun_is_new t begun in cc

    abort_true : IsPresumedAborted s t
    abort_true = AtCoordinator c b not_in_table (false_from_ne_true _ not_decided) (false_from_ne_true _ not_opened)

  -- ---- what the other member tells

  abbrev Says : Told → Type 0
  Says x = AreTrueVerdicts (done_for x (s.member other) t m other) s

  module _ (doubt : stands (view Memory (s.member m)) t ≡ true) where
    aborting : stands (view Memory (s.member other)) t ≡ false → 1 ≤ count_at (told_of s t) other → (s.coord c).up ≡ false → Says told.Abort
    aborting away took down = by (standing_of (s.member other) t)
      where
        dead : IsPresumedAborted s t
        dead = abort_true doubt away took down

        by : (x : Standing) → AreTrueVerdicts (letting_go x t other ++ happening.Hand t m false ∷ []) s
        by IsActive = (tt, (every_presumed s (happening.Line (event.Timer t (node.Member other)) ∷ []) t i (tt, tt) dead, tt))
        by IsVoted = (dead, tt)
        by IsInstalled = (dead, tt)
        by IsAbsent = (dead, tt)

    unvoted : stands (view Memory (s.member other)) t ≡ false → Says (told_unvoted (count_at (told_of s t) other) (s.coord c).up)
    unvoted away = by (count_at (told_of s t) other == 0) refl (s.coord c).up refl
      where
        by : (z : Bool) → (count_at (told_of s t) other == 0) ≡ z → (u : Bool) → (s.coord c).up ≡ u → Says (if z then told.Stranger else (if u then told.Reachable else told.Abort))
        by true e u f = tt
        by false e true f = tt
        by false e false f = aborting away (some_told (count_at (told_of s t) other) e) f

    active_away : holds (s.member other).engine.active t ≡ true → stands (view Memory (s.member other)) t ≡ false
    active_away h = let p = holds_found (s.member other).engine.active t h in i.active.apart t other p.0 p.1

    standing_told : (x : Standing) → standing_of (s.member other) t ≡ x → Says (told_standing x (count_at (told_of s t) other) (s.coord c).up)
    standing_told IsInstalled e = (commit_true (installed_by (holds (s.member other).engine.active t) (holds (s.member other).engine.voted t) (holds (s.member other).committed t) e), tt)
    standing_told IsVoted e = tt
    standing_told IsActive e = unvoted (active_away (active_by (holds (s.member other).engine.active t) (holds (s.member other).engine.voted t) (holds (s.member other).committed t) e))
    standing_told IsAbsent e = unvoted (absent_by (holds (s.member other).engine.active t) (holds (s.member other).engine.voted t) (holds (s.member other).committed t) e)

  pub true_told : Says (told_at_turn s t m c other)
  true_told = by (is_in_doubt s t m) refl (s.member other).up
    where
      by : (b : Bool) → is_in_doubt s t m ≡ b → (u : Bool) →
          Says (if b then (if u then told_standing (standing_of (s.member other) t) (count_at (told_of s t) other) (s.coord c).up else told.Down) else told.Settled)
      by false e u = tt
      by true e false = tt
      by true e true =
          standing_told (or_left (holds (s.member m).engine.voted t) (holds (s.member m).committed t) (and_parts (s.member m).up (holds (s.member m).engine.voted t) e).1)
          (standing_of (s.member other) t) refl

pub true_consultation : (members coords : ℕ) (s : Federation) (t m c other : ℕ) → AllInvariants s → AreWhole members coords s → BelongsTo s t c → AreTrueVerdicts (consultation s t m c other) s
true_consultation members coords s t m c other i w b = true_told members coords s i w t m c other b

-- An end becomes stable at most once: it ends a commit, and none of the transaction is there again.
use Rattle.std.proofs.Common.{◌≡◌, ◌⊎◌, inl, inr, ℕ, true, false, ◌&&◌, List, [], ◌∷◌, Some, refl, sym, ap, ◌∙◌}
use Rattle.std.specs.List.{list_any}
use Rattle.std.proofs.lemmas.Bool.{and_parts, or_from, false_from_ne_true}
use Rattle.std.proofs.lemmas.List.Folds.{list_any-append}
use Rattle.co_base.specs.declared.head.Kind.{Kind}
use Rattle.co_base.specs.declared.node.Node.{Node}
use Rattle.co_base.specs.declared.node.Node.TheVariants as node
use Rattle.co_message.specs.declared.item.ItemKind.{ItemKind}
use Rattle.co_record.specs.declared.record.Record.{Record}
use Rattle.co_state.specs.Table.{look, holds}
use Rattle.co_plain.specs.declared.happening.Happening.{Happening}
use Rattle.co_plain.specs.declared.happening.Happening.TheVariants as happening
use Rattle.co_plain.specs.CoordView.{recovered_commits}
use Rattle.co_plain.specs.Decisions.{is_decided}
use Rattle.co_plain.specs.Federation.{Federation}
use Rattle.co_plain.specs.Opening.{Found, made, opened}
use Rattle.co_plain.specs.Premises.{AreOpenable, AreTrueVerdicts}
use Rattle.co_plain.specs.SoundLogs.{unended_in, has_unended}
use Rattle.co_plain.specs.Step.{step}
use Rattle.co_law_base.proofs.Carrying.{by_coord_begun, same_coord}
use Rattle.co_law_base.proofs.Commits.{unended_seen}
use Rattle.co_law_base.proofs.Facts.{by_coord, Facts}
use Rattle.co_law_base.proofs.Lookups.{holds_found}
use Rattle.co_law_moves.specs.MoveTraces.{told_with, items_along}
use Rattle.co_law_moves.proofs.Growing.{step_grows}
use Rattle.co_law_moves.proofs.Start.{start_facts}
use Rattle.co_law_moves.proofs.Steps.{step_keeps}
use Rattle.co_law_once.specs.Once.{AtMostOnce, AreEndedOnce, tells_end}
use Rattle.co_law_once.proofs.EndsTold.{Past, AllWait, Tells, step_tells}
use Rattle.co_law_once.proofs.Waiting.{waits_none}
use Rattle.co_law_once.proofs.Walking.{once_append}

-- a commit without end was decided in this run at the coordinator, or opened there
abbrev IsHome : Federation → ℕ → ℕ → Type 0
IsHome s t c = ((by_coord (look s.sessions t) c && is_decided s.decided t) ≡ true) ⊎ ((members : List ℕ) × (unended_in (s.opened_coord c) t ≡ Some members))

module _ (s : Federation) (f : Facts s) where
  home : (t c : ℕ) → has_unended (s.coord c).log.stable t ≡ true → IsHome s t c
  home t c h = let p = holds_found (recovered_commits (s.coord c).log.stable).unended t h in by p.0 ((f.coords c).unended_known t p.0 p.1)
    where
      by : (members : List ℕ) → ((by_coord (look s.sessions t) c && is_decided s.decided t) ≡ true) ⊎ (unended_in (s.opened_coord c) t ≡ Some members) → IsHome s t c
      by members (inl k) = inl k
      by members (inr k) = inr (members, k)

  -- what was begun in this run stands in no opened log
  apart : {A : Type 0} (t c d : ℕ) (members : List ℕ) → by_coord (look s.sessions t) c ≡ true → unended_in (s.opened_coord d) t ≡ Some members → A
  apart t c d members h k =
      absurd (let z : true ≡ false = sym (f.numbers.commit_used d t (unended_seen (s.opened_coord d) t members k)) ∙ f.numbers.new t (by_coord_begun (look s.sessions t) c h) in cc)

  one_home : (t c d : ℕ) → IsHome s t c → IsHome s t d → c ≡ d
  one_home t c d (inl h) (inl k) =
      same_coord (look s.sessions t) c d (and_parts (by_coord (look s.sessions t) c) (is_decided s.decided t) h).0
      (and_parts (by_coord (look s.sessions t) d) (is_decided s.decided t) k).0
  one_home t c d (inl h) (inr k) = apart t c d k.0 (and_parts (by_coord (look s.sessions t) c) (is_decided s.decided t) h).0 k.1
  one_home t c d (inr h) (inl k) = apart t d c h.0 (and_parts (by_coord (look s.sessions t) d) (is_decided s.decided t) k).0 h.1
  one_home t c d (inr h) (inr k) = f.numbers.one_commit t c d h.0 k.0 h.1 k.1

  home_past : (t c : ℕ) → IsHome s t c → Past s t
  home_past t c (inl h) = inl (and_parts (by_coord (look s.sessions t) c) (is_decided s.decided t) h).1
  home_past t c (inr h) = inr (f.numbers.commit_used c t (unended_seen (s.opened_coord c) t h.0 h.1))

-- nobody decides it any more, and no coordinator has its commit without end
record IsOver (s : Federation) (t : ℕ) : Type 0 where
  past : Past s t
  gone : (c : ℕ) → has_unended (s.coord c).log.stable t ≡ false

module _ (s : Federation) (f : Facts s) (w : AllWait s) (h : Happening) (t : ℕ) where
  tells : Tells s (step s h)
  tells = step_tells s f w h

  past_on : Past s t → Past (step s h).state t
  past_on (inl d) = inl ((step_grows s h).decided t d)
  past_on (inr u) = inr (ap (λ n. holds n t) tells.used ∙ u)

  over_on : IsOver s t → IsOver (step s h).state t
  over_on o =
      record {
        past = past_on o.past;
        gone = λ c. false_from_ne_true _ (λ k. let z : true ≡ false = sym (tells.back t c o.past k) ∙ o.gone c in cc);
      }

  over_silent : IsOver s t → list_any (tells_end t) (step s h).items ≡ false
  over_silent o = false_from_ne_true _ (λ k. let p = tells.ends t k in let z : true ≡ false = sym p.1 ∙ o.gone p.0 in cc)

  told_over : list_any (tells_end t) (step s h).items ≡ true → IsOver (step s h).state t
  told_over k =
      let p = tells.ends t k in
      let at = home s f t p.0 p.1 in
      record { past = past_on (home_past s f t p.0 at); gone = λ c. false_from_ne_true _ (λ e. elsewhere p.0 p.1 p.2 c e) }
    where
      elsewhere : (c : ℕ) → has_unended (s.coord c).log.stable t ≡ true → has_unended ((step s h).state.coord c).log.stable t ≡ false → (d : ℕ) →
          has_unended ((step s h).state.coord d).log.stable t ≡ true → ⊥
      elsewhere c had none d e =
          let was : has_unended (s.coord d).log.stable t ≡ true = tells.back t d (home_past s f t c (home s f t c had)) e in
          let same : c ≡ d = one_home s f t c d (home s f t c had) (home s f t d was) in
          let z : true ≡ false = sym e ∙ ap (λ k. has_unended ((step s h).state.coord k).log.stable t) (sym same) ∙ none in cc

-- the event itself tells of no record
any_with : (t : ℕ) (h : Happening) (items : List ItemKind) → list_any (tells_end t) (told_with h items) ≡ list_any (tells_end t) items
any_with t (happening.Line e) items = refl
any_with t (happening.Hand u m commit) items = refl
any_with t happening.Disarm items = refl

once_with : (t : ℕ) (h : Happening) (items : List ItemKind) → AtMostOnce (tells_end t) items → AtMostOnce (tells_end t) (told_with h items)
once_with t (happening.Line e) items o = ((λ k. absurd (let z : false ≡ true = k in cc)), o)
once_with t (happening.Hand u m commit) items o = o
once_with t happening.Disarm items o = o

none_over : (hs : List Happening) (s : Federation) → Facts s → AllWait s → AreTrueVerdicts hs s → (t : ℕ) → IsOver s t → list_any (tells_end t) (items_along hs s) ≡ false
none_over [] s f w v t o = refl
none_over (h ∷ hs) s f w v t o =
    list_any-append (tells_end t) (told_with h (step s h).items) (items_along hs (step s h).state)
    ∙ or_from (list_any (tells_end t) (told_with h (step s h).items)) (list_any (tells_end t) (items_along hs (step s h).state))
    (any_with t h (step s h).items ∙ over_silent s f w h t o)
    (none_over hs (step s h).state (step_keeps s f h v.0) (step_tells s f w h).waits v.1 t (over_on s f w h t o))

told_once : (hs : List Happening) (s : Federation) → Facts s → AllWait s → AreTrueVerdicts hs s → (t : ℕ) → AtMostOnce (tells_end t) (items_along hs s)
told_once [] s f w v t = tt
told_once (h ∷ hs) s f w v t =
    once_append (tells_end t) (told_with h (step s h).items) (items_along hs (step s h).state) (once_with t h (step s h).items ((step_tells s f w h).once t))
    (λ k. none_over hs (step s h).state (step_keeps s f h v.0) (step_tells s f w h).waits v.1 t (told_over s f w h t (sym (any_with t h (step s h).items) ∙ k)))
    (told_once hs (step s h).state (step_keeps s f h v.0) (step_tells s f w h).waits v.1 t)

-- a header that is made tells of no commit
unended_made : (owner : Node) (records : List Record) (t : ℕ) → has_unended (made owner records) t ≡ has_unended records t
unended_made owner [] t = refl
unended_made owner (r ∷ records) t = refl

pub ended_once : (kinds : List Kind) (coords : ℕ) (fm fc : ℕ → Found) (hs : List Happening) → AreOpenable kinds coords fm fc → AreTrueVerdicts hs (opened kinds coords fm fc) →
    AreEndedOnce (opened kinds coords fm fc) (items_along hs (opened kinds coords fm fc))
ended_once kinds coords fm fc hs g v =
    record {
      once = told_once hs s f w v;
      not_again = λ t u n. none_over hs s f w v t (record { past = inr u; gone = λ c. unended_made (node.Coord c) (fc c).records t ∙ n c });
    }
  where
    s : Federation
    s = opened kinds coords fm fc

    f : Facts (opened kinds coords fm fc)
    f = start_facts kinds coords fm fc g

    w : AllWait (opened kinds coords fm fc)
    w t c = waits_none t ((opened kinds coords fm fc).coord c).log.stable

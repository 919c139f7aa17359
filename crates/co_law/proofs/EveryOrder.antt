-- Every run is commitment ordered.
use Rattle.std.proofs.Common.{◌≡◌, ◌≢◌, ◌⊎◌, inl, inr, ℕ, suc, true, false, List, [], ◌∷◌, ◌++◌, map, None, Some, refl, sym, ap, ◌∙◌, subst}
use Rattle.std.proofs.lemmas.Bool.{or_cases, or_right}
use Rattle.co_base.specs.declared.head.Kind.{Kind}
use Rattle.co_message.specs.declared.event.Event.{Event}
use Rattle.co_message.specs.declared.item.Item.{Item}
use Rattle.co_message.specs.declared.item.ItemKind.{ItemKind}
use Rattle.co_message.specs.declared.item.ItemKind.TheVariants as item
use Rattle.co_plain.specs.declared.happening.Happening.TheVariants as happening
use Rattle.co_plain.specs.Step.{step}
use Rattle.co_state.specs.Table.{look, holds}
use Rattle.co_plain.specs.declared.happening.Happening.{Happening}
use Rattle.co_plain.specs.Numbers.{has_number}
use Rattle.co_plain.specs.Opening.{Found, opened}
use Rattle.co_plain.specs.Federation.{Federation}
use Rattle.co_plain.specs.Runs.{run, numbered, transcript, lines}
use Rattle.co_plain.specs.Decisions.{asked_in, decided_numbers}
use Rattle.co_plain.specs.CommitmentOrder.{Trace, decisions_in, trace_of, Precedes, StandsBefore, told_decisions, IsCommitmentOrdered}
use Rattle.co_plain.specs.Invariants.{Memory}
use Rattle.co_law_base.proofs.Lookups.{look_none}
use Rattle.co_law_base.proofs.Facts.{Facts}
use Rattle.co_plain.specs.Premises.{AreTrueVerdicts, AreOpenable}
use Rattle.co_law_moves.specs.MoveTraces.{items_along}
use Rattle.co_law_runs.proofs.Acts.{ActedAs, acted}
use Rattle.co_law_runs.proofs.Deciders.{homed, home_of}
use Rattle.co_law_runs.proofs.Traced.{acts_traced}
use Rattle.co_law_runs.proofs.AtDecision.{Fresh}
use Rattle.co_law_runs.proofs.Ordered.{ordered}
use Rattle.co_law_moves.proofs.Start.{start_facts}
use Rattle.co_law.proofs.GoingOn.{lines_true}

module _ (kinds : List Kind) (coords : ℕ) (fm fc : ℕ → Found) (g : AreOpenable kinds coords fm fc) where
  opened_facts : Facts (opened kinds coords fm fc)
  opened_facts = start_facts kinds coords fm fc g

  used : (t m : ℕ) → holds ((opened kinds coords fm fc).member m).committed t ≡ true → holds (opened kinds coords fm fc).used t ≡ true
  used t m h = by (or_cases (asked_in (look (opened kinds coords fm fc).sessions t)) (holds (opened kinds coords fm fc).used t) (((opened_facts.members m).views Memory).over t (or_right _ _ h)))
    where
      by : (asked_in (look (opened kinds coords fm fc).sessions t) ≡ true) ⊎ (holds (opened kinds coords fm fc).used t ≡ true) → holds (opened kinds coords fm fc).used t ≡ true
      by (inr u) = u
      by (inl a) = absurd (let z : false ≡ true = ap asked_in (sym (look_none t)) ∙ a in cc)

  fresh_opened : Fresh kinds (opened kinds coords fm fc)
  fresh_opened =
      record {
        facts = opened_facts;
        traced = record {
          by_some = λ t by e. absurd (let z : None ≡ Some by = e in cc);
          begun = λ t by h. absurd (let z : false ≡ true = ap (λ o. homed o by) (sym (look_none t)) ∙ h in cc);
          known = λ t at h. absurd (let z : false ≡ true = h in cc);
          order = refl;
          homes = λ t. look_none t ∙ sym (ap home_of (look_none t));
          decisions = refl;
          installed = λ t m h. absurd (let z : false ≡ true = h in cc);
          was_installed = λ t m h. inr (used t m h);
        };
        installs = λ m. tt;
        kind = λ m. refl;
      }

abbrev InOrder : List Kind → List Trace → Type 0
InOrder kinds tr = (t u m : ℕ) → t ≢ u → has_number (decisions_in tr) t ≡ true → has_number (decisions_in tr) u ≡ true → Precedes kinds tr t u m → StandsBefore (decisions_in tr) t u

pub every_order : (kinds : List Kind) (coords : ℕ) (fm fc : ℕ → Found) (hs : List Happening) → AreOpenable kinds coords fm fc → AreTrueVerdicts hs (opened kinds coords fm fc) →
    IsCommitmentOrdered kinds (items_along hs (opened kinds coords fm fc))
every_order kinds coords fm fc hs g v = by (acted hs (opened kinds coords fm fc) (start_facts kinds coords fm fc g) v)
  where
    by : ActedAs (run hs (opened kinds coords fm fc)) (trace_of (items_along hs (opened kinds coords fm fc))) (opened kinds coords fm fc) → InOrder kinds (trace_of (items_along hs (opened kinds coords fm fc)))
    by a = subst (InOrder kinds) (sym a.tells) (ordered kinds (opened kinds coords fm fc) (fresh_opened kinds coords fm fc g) a.acts a.guarded)

-- the items of schedule lines
transcript_items : (number : ℕ) (events : List Event) (s : Federation) → map (λ i. i.what) (transcript number events s) ≡ items_along (lines events) s
transcript_items number [] s = refl
transcript_items number (e ∷ es) s =
    what_more (item.Event e ∷ (step s (happening.Line e)).items) (transcript (suc number) es (step s (happening.Line e)).state)
    ∙ ap (λ k. item.Event e ∷ ((step s (happening.Line e)).items ++ k)) (transcript_items (suc number) es (step s (happening.Line e)).state)
  where
    what_more : (items : List ItemKind) (rest : List Item) → map (λ i. i.what) (numbered number items ++ rest) ≡ items ++ map (λ i. i.what) rest
    what_more [] rest = refl
    what_more (x ∷ items) rest = ap (λ k. x ∷ k) (what_more items rest)

pub every_transcript : (kinds : List Kind) (coords : ℕ) (fm fc : ℕ → Found) (number : ℕ) (events : List Event) → AreOpenable kinds coords fm fc →
    IsCommitmentOrdered kinds (map (λ i. i.what) (transcript number events (opened kinds coords fm fc)))
every_transcript kinds coords fm fc number events g =
    subst (λ items. InOrder kinds (trace_of items)) (sym (transcript_items number events (opened kinds coords fm fc))) (every_order kinds coords fm fc (lines events) g (lines_true events (opened kinds coords fm fc)))

pub every_decision : (kinds : List Kind) (coords : ℕ) (fm fc : ℕ → Found) (hs : List Happening) → AreOpenable kinds coords fm fc → AreTrueVerdicts hs (opened kinds coords fm fc) →
    told_decisions (items_along hs (opened kinds coords fm fc)) ≡ decided_numbers (run hs (opened kinds coords fm fc)).decided
every_decision kinds coords fm fc hs g v = by (acted hs (opened kinds coords fm fc) (start_facts kinds coords fm fc g) v)
  where
    by : ActedAs (run hs (opened kinds coords fm fc)) (trace_of (items_along hs (opened kinds coords fm fc))) (opened kinds coords fm fc) →
        told_decisions (items_along hs (opened kinds coords fm fc)) ≡ decided_numbers (run hs (opened kinds coords fm fc)).decided
    by a =
        let fresh = fresh_opened kinds coords fm fc g in
        ap decisions_in a.tells ∙ (acts_traced a.acts (opened kinds coords fm fc) fresh.facts [] fresh.traced a.guarded).decisions
        ∙ ap (λ z. decided_numbers z.decided) a.leaves

pub every_line_decision : (kinds : List Kind) (coords : ℕ) (fm fc : ℕ → Found) (number : ℕ) (events : List Event) → AreOpenable kinds coords fm fc →
    told_decisions (map (λ i. i.what) (transcript number events (opened kinds coords fm fc))) ≡ decided_numbers (run (lines events) (opened kinds coords fm fc)).decided
every_line_decision kinds coords fm fc number events g =
    ap told_decisions (transcript_items number events (opened kinds coords fm fc)) ∙ every_decision kinds coords fm fc (lines events) g (lines_true events (opened kinds coords fm fc))

-- The least transaction that holds a vote back.
use Rattle.std.proofs.Common.{◌≡◌, ◌≢◌, ℕ, Bool, true, false, ◌&&◌, ◌||◌, ◌==◌, not, length, if◌then◌else◌, List, [], ◌∷◌, Option, None, Some, is_some, refl, sym, ap, subst, ◌∙◌}
use Rattle.std.proofs.lemmas.List.{nil_from_length}
use Rattle.co_base.specs.declared.written.Written.{Written}
use Rattle.co_state.specs.declared.engine_state.EngineState.{EngineState}
use Rattle.co_state.specs.declared.engine_state.Operation.{Operation}
use Rattle.co_state.specs.declared.engine_state.Vote.{Vote}
use Rattle.co_state.specs.Changes.{sets_of}
use Rattle.co_state.specs.EngineState.{is_undecided, operations_of, operations_in, sets_at, sets_in}
use Rattle.co_state.specs.Keys.{reads_meet, least_key}
use Rattle.co_state.specs.Table.{Table, look, without, holds, least_where, lesser}
use Rattle.co_state.specs.declared.verdict.Verdict.TheVariants.{LostOperations}
use Rattle.co_state.specs.StaleRead.{stale_keys}
use Rattle.co_state.specs.VotingRule.{active_holds, voted_holds, holder_of, unless_stale, vote_of}
use Rattle.co_vote.specs.Ballots.{verdict_on}
use Rattle.co_plain.specs.declared.member_state.AskedMark.{AskedMark}
use Rattle.co_undecided.specs.Kept.{entry_at, entry_of, kept_in}
use Rattle.co_state.specs.Effects.{after_drop, after_install, install_vote}
use Rattle.co_state.proofs.Tables.{same_table}
use Rattle.co_index.specs.declared.index.Index.{Index}
use Rattle.co_index.specs.Indexed.{TellsOf, IsIndexOf}
use Rattle.co_undecided.proofs.Numbered.{gone, left, by_number}
use Rattle.co_undecided.proofs.Least.{least_once, passed, table_least}

no_reads : (ws : List Written) → reads_meet [] ws ≡ false
no_reads [] = refl
no_reads (w ∷ ws) = no_reads ws

least_none : {X : Type 0} (test : ℕ → X → Bool) (table : Table X) → ((u : ℕ) (x : X) → test u x ≡ false) → least_where test table ≡ None
least_none {X} test table never = least_once (λ u. passed test u (look table u)) (least_where test table) None (table_least test table) (λ u. by u (look table u))
  where
    by : (u : ℕ) (o : Option X) → passed test u o ≡ false
    by u None = refl
    by u (Some x) = never u x

nobody_holds : (b : EngineState) (t : ℕ) → holder_of b t (sets_of []) ≡ None
nobody_holds b t =
    ap (λ o. lesser o (least_where (λ u vote. not (u == t) && voted_holds (sets_of []) vote.sets) b.voted))
    (least_none (λ u os. not (u == t) && active_holds (sets_of []) os) b.active (λ u os. never (not (u == t))))
    ∙ least_none (λ u vote. not (u == t) && voted_holds (sets_of []) vote.sets) b.voted (λ u vote. ap (λ c. not (u == t) && c) (no_reads vote.sets.writes) ∙ never (not (u == t)))
  where
    never : (a : Bool) → (a && false) ≡ false
    never true = refl
    never false = refl

-- a voted transaction is not active, so none of its operations are kept
pub kept_count_is : (b : EngineState) (asked : Table AskedMark) (t : ℕ) → (holds b.voted t ≡ true → look b.active t ≡ None) →
    kept_in (entry_at b asked t) ≡ length (operations_of b t)
kept_count_is b asked t = by (look b.active t) (look b.voted t)
  where
    by : (a : Option (List Operation)) (v : Option Vote) → (is_some v ≡ true → a ≡ None) → kept_in (entry_of a v (look asked t)) ≡ length (operations_in a)
    by None None apart = refl
    by (Some os) None apart = refl
    by a (Some vote) apart = sym (ap (λ o. length (operations_in o)) (apart refl))

module _ (b : EngineState) (asked : Table AskedMark) (t : ℕ) (unvoted : look b.voted t ≡ None) where
  kept_is : kept_in (entry_at b asked t) ≡ length (operations_of b t)
  kept_is = kept_count_is b asked t (λ voted. absurd (let none : holds b.voted t ≡ false = ap is_some unvoted in cc))

  pub is_active : length (operations_of b t) ≢ 0 → holds b.active t ≡ true
  is_active = by (look b.active t)
    where
      by : (a : Option (List Operation)) → length (operations_in a) ≢ 0 → is_some a ≡ true
      by None n = absurd (n refl)
      by (Some os) n = refl

  pub without_operations : (carried : ℕ) → kept_in (entry_at b asked t) ≡ 0 → verdict_on 0 carried None None ≡ vote_of b t carried
  without_operations carried none =
      let empty : operations_of b t ≡ [] = nil_from_length (operations_of b t) (sym kept_is ∙ none) in
      ap (λ h. if 0 == carried then unless_stale None h else LostOperations) (sym (nobody_holds b t))
      ∙ ap (λ os. if length os == carried then unless_stale (least_key (stale_keys b.installed os)) (holder_of b t (sets_of os)) else LostOperations) (sym empty)

module _ (b : EngineState) (t : ℕ) where
  pub own_sets : look b.voted t ≡ None → sets_at b t ≡ sets_of (operations_of b t)
  own_sets unvoted = ap (λ v. sets_in v (operations_of b t)) unvoted

  pub active_undecided : holds b.active t ≡ true → is_undecided b t ≡ true
  active_undecided e = ap (λ c. c || holds b.voted t) e

  pub voted_undecided : holds b.voted t ≡ true → is_undecided b t ≡ true
  voted_undecided e = right (holds b.active t) (holds b.voted t) e
    where
      right : (c d : Bool) → d ≡ true → (c || d) ≡ true
      right true d h = refl
      right false d h = h

  -- an installed transaction is gone, as a dropped one is
  pub index_installed : (vote : Vote) (x : Index) → look b.voted t ≡ Some vote → look b.active t ≡ None → IsIndexOf x (after_drop b t) → IsIndexOf x (after_install b t)
  index_installed vote x is_voted idle is = λ u.
      subst (λ m. TellsOf x u (sets_in (look m u) (operations_in (look (after_install b t).active u))) (holds m u)) (sym votes)
      (subst (λ m. TellsOf x u (sets_in (look (without b.voted t) u) (operations_in (look m u))) (holds (without b.voted t) u)) (sym actives) (is u))
    where
      votes : (after_install b t).voted ≡ without b.voted t
      votes = ap (λ v. (install_vote b t v).voted) is_voted

      actives : (after_install b t).active ≡ without b.active t
      actives = ap (λ v. (install_vote b t v).active) is_voted ∙ same_table b.active (without b.active t) same
        where
          same : (u : ℕ) → look b.active u ≡ look (without b.active t) u
          same u = by_number (λ u. look b.active u ≡ look (without b.active t) u) t u (idle ∙ sym (gone b.active t)) (λ n. sym (left b.active t u n))

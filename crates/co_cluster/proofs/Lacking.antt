-- Whom a coordinator lacks: the first participant from a number on is this one exactly where it is lacking.
use Rattle.std.proofs.Common.{◌≡◌, ◌≢◌, ◌⊎◌, inl, inr, ℕ, ◌≤◌, ◌<◌, ◌-◌, nat_lt, Bool, true, false, not, ◌&&◌, ◌||◌, ◌==◌, if◌then◌else◌, List, [], ◌∷◌, find, Option, None, Some, refl, sym, ap, ◌∙◌, subst, arith}
use Rattle.std.specs.List.{AllByRecursion}
use Rattle.std.specs.Ordering.{nat_cmp}
use Rattle.std.specs.Cmp.{nat_cmp_is}
use Rattle.std.specs.declared.cmp.Ordering.TheVariants.{Less, Equal, Greater}
use Rattle.std.proofs.lemmas.Bool.{cases_order, eqb-true, eqb-false}
use Rattle.std.proofs.lemmas.Bool.Decides.{nat_tests}
use Rattle.std.proofs.lemmas.Map.Keys.{sorted_head, sorted_tail}
use Rattle.co_base.specs.Order.{IsAscending}
use Rattle.co_record.specs.Spelling.{IsWritable}
use Rattle.co_record.specs.declared.record.Record.{Record}
use Rattle.co_record.specs.declared.record.Record.TheVariants as log
use Rattle.co_state.specs.Table.{look}
use Rattle.co_plain.specs.CoordStep.{members_of}
use Rattle.co_plain.specs.CoordView.{recovered_commits}
use Rattle.co_plain.specs.Federation.{Federation}
use Rattle.co_plain.specs.Numbers.{has_number, IsAmong}
use Rattle.co_plain.specs.Quiet.{lacks_yes, lacks_ack}
use Rattle.co_plain.specs.SoundLogs.{unended_in}
use Rattle.co_plain.specs.declared.coord_state.Entry.{Entry}
use Rattle.co_plain.specs.declared.coord_state.Entry.TheVariants as entry
use Rattle.co_law_base.proofs.Commits.{commit_cases}
use Rattle.co_law_base.proofs.Lookups.{is_nothing, look_none, without_cases}
use Rattle.co_law_base.proofs.Sending.{part_member}
use Rattle.co_coord.specs.Reading.{lacking_of, stage_of}
use Rattle.co_coord.specs.declared.reading.Stage.TheVariants as stage
use Rattle.co_cluster.specs.Conditions.{IsReady}
use Rattle.co_cluster.specs.Readings.{names}

-- ---- ascending numbers

less_is : (x y : ℕ) → nat_cmp x y ≡ Less → x < y
less_is x y e = by (cases_order x y)
  where
    by : (x ≡ y) ⊎ ((x < y) ⊎ (y < x)) → x < y
    by (inl q) = absurd (let z : Less ≡ Equal = sym e ∙ sym (nat_cmp_is x y Equal q) in cc)
    by (inr (inl l)) = l
    by (inr (inr g)) = absurd (let z : Less ≡ Greater = sym e ∙ sym (nat_cmp_is x y Greater g) in cc)

none_below : (m k : ℕ) (ks : List ℕ) → m < k → AllByRecursion (λ y. nat_cmp k y ≡ Less) ks → has_number ks m ≡ false
none_below m k [] l above = refl
none_below m k (y ∷ ys) l above = by (none_below m k ys l above.1) (y == m) refl
  where
    by : has_number ys m ≡ false → (b : Bool) → (y == m) ≡ b → (b || has_number ys m) ≡ false
    by rest true e = let same = eqb-true y m e in let over = less_is k y above.0 in absurd (omega (arith, l, same, over))
    by rest false e = rest

both : (a b : Bool) → a ≡ true → b ≡ true → (a && b) ≡ true
both a b p q = rw (p, q)

module _ (given : List ℕ) (m : ℕ) (some : 1 ≤ m) where
  abbrev passes : ℕ → Bool
  passes n = nat_lt (m - 1) n && not (has_number given n)

  -- the first of the ascending numbers that passes is this one exactly where it is among them and not given
  pub first_named : (ns : List ℕ) → IsAscending ns → names (find passes ns) m ≡ (has_number ns m && not (has_number given m))
  first_named [] up = refl
  first_named (k ∷ ks) up = by (first_named ks (sorted_tail nat_cmp k ks up)) (k == m) refl (passes k) refl
    where
      more : Bool → Option ℕ
      more b = if b then Some k else find passes ks

      by : names (find passes ks) m ≡ (has_number ks m && not (has_number given m)) → (a : Bool) → (k == m) ≡ a → (b : Bool) → passes k ≡ b → names (more b) m ≡ ((a || has_number ks m) && not (has_number given m))
      by rest true e true p =
          let same = eqb-true k m e in
          e ∙ sym (passed same)
        where
          passed : k ≡ m → not (has_number given m) ≡ true
          passed same = right (nat_lt (m - 1) k) (not (has_number given m)) (ap (λ j. nat_lt (m - 1) k && not (has_number given j)) (sym same) ∙ p)
            where
              right : (x y : Bool) → (x && y) ≡ true → y ≡ true
              right true y h = h
              right false y h = absurd (let z : false ≡ true = h in cc)
      by rest true e false p = rest ∙ none (has_number ks m) (not (has_number given m)) given_is ∙ sym given_is
        where
          same : k ≡ m
          same = eqb-true k m e

          below : nat_lt (m - 1) k ≡ true
          below = grind (arith, nat_tests, same, some)

          given_is : not (has_number given m) ≡ false
          given_is = ap (λ j. not (has_number given j)) (sym same) ∙ ap (λ b. b && not (has_number given k)) (sym below) ∙ p

          none : (x y : Bool) → y ≡ false → (x && y) ≡ false
          none true y h = h
          none false y h = refl
      by rest false e true p = e ∙ sym (ap (λ b. b && not (has_number given m)) (none_below m k ks above (sorted_head nat_cmp k ks up)))
        where
          left : (x y : Bool) → (x && y) ≡ true → x ≡ true
          left true y h = refl
          left false y h = absurd (let z : false ≡ true = h in cc)

          other : k ≢ m
          other = eqb-false k m e

          over : nat_lt (m - 1) k ≡ true
          over = left _ _ p

          above : m < k
          above = grind (arith, nat_tests, over, other, some)
      by rest false e false p = rest

-- ---- the commits that records tell were written ascending

unended_ascending : (rs : List Record) → AllByRecursion IsWritable rs → (t : ℕ) (ms : List ℕ) → unended_in rs t ≡ Some ms → IsAscending ms
unended_ascending [] b t ms e = is_nothing (sym (look_none t) ∙ e)
unended_ascending (log.Header x y ∷ rs) b t ms e = unended_ascending rs b.1 t ms e
unended_ascending (log.Prepare x y z u v ∷ rs) b t ms e = unended_ascending rs b.1 t ms e
unended_ascending (log.Abort x ∷ rs) b t ms e = unended_ascending rs b.1 t ms e
unended_ascending (log.Checkpoint x y z ∷ rs) b t ms e = unended_ascending rs b.1 t ms e
unended_ascending (log.End u ∷ rs) b t ms e = unended_ascending rs b.1 t ms (without_cases (recovered_commits rs).unended u t ms e).1
unended_ascending (log.Commit u ns ∷ rs) b t ms e = by (unended_ascending rs b.1 t ms) (commit_cases rs u ns t ms e)
  where
    by : (unended_in rs t ≡ Some ms → IsAscending ms) → ((u ≡ t) × (ns ≡ ms) × (ns ≢ [])) ⊎ (unended_in rs t ≡ Some ms) → IsAscending ms
    by rest (inl p) = subst IsAscending p.1 b.0.2
    by rest (inr k) = rest k

-- ---- a coordinator

module _ (s : Federation) (ready : IsReady s) (c : ℕ) (own : IsAmong c s.coordinators) (t m : ℕ) (some : 1 ≤ m) where
  named_yes : (o : Option Entry) → look (s.coord c).table t ≡ o → stage_of o ≡ stage.Collecting → names (lacking_of (m - 1) o) m ≡ lacks_yes o m
  named_yes None is e = absurd (cc)
  named_yes (Some entry.Idle) is e = absurd (cc)
  named_yes (Some (entry.Committed ms acks)) is e = absurd (cc)
  named_yes (Some (entry.Collecting parts yeses)) is e =
      first_named yeses m some (members_of parts) ((ready.writable.coord c own).decision t parts yeses is).2 ∙ ap (λ b. b && not (has_number yeses m)) (part_member parts m)

  pub lacks_yes_is : stage_of (look (s.coord c).table t) ≡ stage.Collecting → names (lacking_of (m - 1) (look (s.coord c).table t)) m ≡ lacks_yes (look (s.coord c).table t) m
  lacks_yes_is e = named_yes (look (s.coord c).table t) refl e

  named_ack : (o : Option Entry) → look (s.coord c).table t ≡ o → stage_of o ≡ stage.Committed → names (lacking_of (m - 1) o) m ≡ lacks_ack o m
  named_ack None is e = absurd (cc)
  named_ack (Some entry.Idle) is e = absurd (cc)
  named_ack (Some (entry.Collecting parts yeses)) is e = absurd (cc)
  named_ack (Some (entry.Committed ms acks)) is e =
      first_named acks m some ms (unended_ascending _ (ready.writable.coord c own).records t ms ((ready.whole.coord c).fits t (entry.Committed ms acks) is))

  pub lacks_ack_is : stage_of (look (s.coord c).table t) ≡ stage.Committed → names (lacking_of (m - 1) (look (s.coord c).table t)) m ≡ lacks_ack (look (s.coord c).table t) m
  lacks_ack_is e = named_ack (look (s.coord c).table t) refl e

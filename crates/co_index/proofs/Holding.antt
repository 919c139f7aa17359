-- The transaction that the index finds in the way of a vote is that of the voting rule.
use Rattle.std.proofs.Common.{◌≡◌, ℕ, ◌==◌, Bool, true, false, cond, arith, not, ◌&&◌, ◌||◌, List, [], ◌∷◌, filter, if◌then◌else◌, is_some, Option, None, Some, refl, sym, ap, ◌∙◌, true≢false}
use Rattle.std.specs.Prelude.{◌==◌}
use Rattle.std.specs.Ordering.{nat_cmp}
use Rattle.std.specs.declared.cmp.Ordering.TheVariants.{Equal}
use Rattle.std.specs.FinMap.{FinMap, entries, get, get-empty, get-entries, slice_cmp-IsAntisymmetric, nat_cmp-IsAntisymmetric}
use Rattle.std.specs.FinMap.Entries.{find, find-where_key}
use Rattle.std.specs.List.{AllByRecursion}
use Rattle.co_base.specs.Order.{key_cmp}
use Rattle.co_base.specs.Span.{Span, span_has}
use Rattle.co_base.specs.declared.written.Written.{Written}
use Rattle.co_state.specs.declared.engine_state.EngineState.{EngineState}
use Rattle.co_state.specs.declared.engine_state.Operation.{Operation}
use Rattle.co_state.specs.declared.engine_state.Sets.{Sets}
use Rattle.co_state.specs.declared.engine_state.Vote.{Vote}
use Rattle.co_state.specs.Changes.{sets_of}
use Rattle.co_state.specs.EngineState.{operations_in, sets_in, sets_at}
use Rattle.co_state.specs.Keys.{same_key, reads_key, writes_key, writes_within, reads_meet, writes_meet}
use Rattle.co_state.specs.Table.{Table, look, holds, lesser}
use Rattle.co_state.specs.VotingRule.{active_holds, voted_holds, holder_of}
use Rattle.co_index.specs.declared.index.Index.{Index}
use Rattle.co_index.specs.Touching.{or_nobody, touch_at, spans_in}
use Rattle.co_index.specs.Indexed.{is_alone, reads_alone, is_wide, reads_wide, TellsOf, IsIndexOf, AreApart}
use Rattle.co_index.specs.Holding.{first_other, first_voted, first_scanner, by_key, by_writes, by_entries, by_range, by_reads, by_written}
use Rattle.std.proofs.lemmas.Bool.Decides.{nat_tests}
use Rattle.co_index.proofs.Keys as key
use Rattle.co_index.proofs.LeastNumber.{IsLeast, least_once, least_of, least_of_both, passed, table_least}
use Rattle.co_index.proofs.OneKey.{key_has, alone_in, all_found}
use Rattle.co_index.proofs.Putting.{or-cross}

-- ---- what is found is the least that passes the test of each list
or_false : (b : Bool) → b ≡ (b || false)
or_false true = refl
or_false false = refl

or_assoc : (a b c : Bool) → ((a || b) || c) ≡ (a || (b || c))
or_assoc true b c = refl
or_assoc false b c = refl

or_assoc4 : (a b c d : Bool) → (((a || b) || c) || d) ≡ (a || ((b || c) || d))
or_assoc4 true b c d = refl
or_assoc4 false b c d = refl

module _ (x : Index) (t : ℕ) where
  abbrev is_reader : List ℕ → ℕ → Bool
  is_reader key u = passed (λ v mark. not (v == t)) u (touch_at x.readers key u)

  abbrev is_writer : List ℕ → ℕ → Bool
  is_writer key u = passed (λ v voted. voted && not (v == t)) u (touch_at x.writers key u)

  abbrev at_keys : List Written → ℕ → Bool
  at_keys [] u = false
  at_keys (w ∷ ws) u = (is_reader w.key u || is_writer w.key u) || at_keys ws u

  abbrev at_entries : List (List ℕ × Table Bool) → ℕ → Bool
  at_entries [] u = false
  at_entries (e ∷ es) u = passed (λ v voted. voted && not (v == t)) u (look e.1 u) || at_entries es u

  abbrev at_span : Span → ℕ → Bool
  at_span span u = at_entries (filter (λ e. span_has span e.0) (entries x.writers)) u

  abbrev at_spans : List Span → ℕ → Bool
  at_spans [] u = false
  at_spans (span ∷ spans) u = at_span span u || at_spans spans u

  abbrev at_scanner : List Written → ℕ → Bool
  at_scanner ws u = passed (λ v spans. not (v == t) && reads_meet spans ws) u (look x.scanners u)

  key_least : (p : ℕ → Bool) (found : Option ℕ) (k : List ℕ) → IsLeast p found → IsLeast (λ u. (p u || is_reader k u) || is_writer k u) (by_key x t found k)
  key_least p found k h =
      least_of_both (λ u. p u || is_reader k u) (is_writer k) (lesser found (first_other t (or_nobody (get x.readers k)))) (first_voted t (or_nobody (get x.writers k)))
      (least_of_both p (is_reader k) found (first_other t (or_nobody (get x.readers k))) h (table_least (λ v mark. not (v == t)) (or_nobody (get x.readers k))))
      (table_least (λ v voted. voted && not (v == t)) (or_nobody (get x.writers k)))

  keys_least : (ws : List Written) (p : ℕ → Bool) (found : Option ℕ) → IsLeast p found → IsLeast (λ u. p u || at_keys ws u) (by_writes x t found ws)
  keys_least [] p found h = least_of p (λ u. p u || false) found (λ u. or_false (p u)) h
  keys_least (w ∷ ws) p found h =
      least_of (λ u. ((p u || is_reader w.key u) || is_writer w.key u) || at_keys ws u) (λ u. p u || at_keys (w ∷ ws) u) (by_writes x t found (w ∷ ws))
      (λ u. or_assoc4 (p u) (is_reader w.key u) (is_writer w.key u) (at_keys ws u))
      (keys_least ws (λ u. (p u || is_reader w.key u) || is_writer w.key u) (by_key x t found w.key) (key_least p found w.key h))

  entries_least : (es : List (List ℕ × Table Bool)) (p : ℕ → Bool) (found : Option ℕ) → IsLeast p found → IsLeast (λ u. p u || at_entries es u) (by_entries t found es)
  entries_least [] p found h = least_of p (λ u. p u || false) found (λ u. or_false (p u)) h
  entries_least (e ∷ es) p found h =
      least_of (λ u. (p u || passed (λ v voted. voted && not (v == t)) u (look e.1 u)) || at_entries es u) (λ u. p u || at_entries (e ∷ es) u) (by_entries t found (e ∷ es))
      (λ u. or_assoc (p u) (passed (λ v voted. voted && not (v == t)) u (look e.1 u)) (at_entries es u))
      (entries_least es (λ u. p u || passed (λ v voted. voted && not (v == t)) u (look e.1 u)) (lesser found (first_voted t e.1))
      (least_of_both p (λ u. passed (λ v voted. voted && not (v == t)) u (look e.1 u)) found (first_voted t e.1) h (table_least (λ v voted. voted && not (v == t)) e.1)))

  spans_least : (spans : List Span) (p : ℕ → Bool) (found : Option ℕ) → IsLeast p found → IsLeast (λ u. p u || at_spans spans u) (by_reads x t found spans)
  spans_least [] p found h = least_of p (λ u. p u || false) found (λ u. or_false (p u)) h
  spans_least (span ∷ spans) p found h =
      least_of (λ u. (p u || at_span span u) || at_spans spans u) (λ u. p u || at_spans (span ∷ spans) u) (by_reads x t found (span ∷ spans))
      (λ u. or_assoc (p u) (at_span span u) (at_spans spans u))
      (spans_least spans (λ u. p u || at_span span u) (by_range x t found span) (entries_least (filter (λ e. span_has span e.0) (entries x.writers)) p found h))

  abbrev at_written : List Span → List (List ℕ × Table Bool) → ℕ → Bool
  at_written spans [] u = false
  at_written spans (e ∷ es) u = (reads_key spans e.0 && passed (λ v voted. voted && not (v == t)) u (look e.1 u)) || at_written spans es u

  read_least : (b : Bool) (p : ℕ → Bool) (found : Option ℕ) (e : List ℕ × Table Bool) → IsLeast p found
      → IsLeast (λ u. p u || (b && passed (λ v voted. voted && not (v == t)) u (look e.1 u))) (if b then lesser found (first_voted t e.1) else found)
  read_least true p found e h =
      least_of_both p (λ u. passed (λ v voted. voted && not (v == t)) u (look e.1 u)) found (first_voted t e.1) h (table_least (λ v voted. voted && not (v == t)) e.1)
  read_least false p found e h = least_of p (λ u. p u || false) found (λ u. or_false (p u)) h

  written_least : (spans : List Span) (es : List (List ℕ × Table Bool)) (p : ℕ → Bool) (found : Option ℕ) → IsLeast p found
      → IsLeast (λ u. p u || at_written spans es u) (by_written t spans found es)
  written_least spans [] p found h = least_of p (λ u. p u || false) found (λ u. or_false (p u)) h
  written_least spans (e ∷ es) p found h =
      least_of (λ u. (p u || (reads_key spans e.0 && passed (λ v voted. voted && not (v == t)) u (look e.1 u))) || at_written spans es u) (λ u. p u || at_written spans (e ∷ es) u)
      (by_written t spans found (e ∷ es))
      (λ u. or_assoc (p u) (reads_key spans e.0 && passed (λ v voted. voted && not (v == t)) u (look e.1 u)) (at_written spans es u))
      (written_least spans es (λ u. p u || (reads_key spans e.0 && passed (λ v voted. voted && not (v == t)) u (look e.1 u)))
      (if reads_key spans e.0 then lesser found (first_voted t e.1) else found) (read_least (reads_key spans e.0) p found e h))

  none_written : (es : List (List ℕ × Table Bool)) (u : ℕ) → at_written [] es u ≡ false
  none_written [] u = refl
  none_written (e ∷ es) u = none_written es u

  has_case : (h r k a f : Bool) → (((h || r) && k) || (a || f)) ≡ ((if h then k || a else a) || ((r && k) || f))
  has_case true true true a f = refl
  has_case true true false true f = refl
  has_case true true false false f = refl
  has_case true false true a f = refl
  has_case true false false true f = refl
  has_case true false false false f = refl
  has_case false true true true f = refl
  has_case false true true false f = refl
  has_case false true false true f = refl
  has_case false true false false f = refl
  has_case false false k true f = refl
  has_case false false k false f = refl

  first_has : (c : Bool) (e : List ℕ × Table Bool) (es : List (List ℕ × Table Bool)) (u : ℕ)
      → at_entries (if c then e ∷ es else es) u ≡ (if c then passed (λ v voted. voted && not (v == t)) u (look e.1 u) || at_entries es u else at_entries es u)
  first_has true e es u = refl
  first_has false e es u = refl

  one_more : (span : Span) (spans : List Span) (es : List (List ℕ × Table Bool)) (u : ℕ)
      → at_written (span ∷ spans) es u ≡ (at_entries (filter (λ e. span_has span e.0) es) u || at_written spans es u)
  one_more span spans [] u = refl
  one_more span spans (e ∷ es) u =
      ap (λ b. ((span_has span e.0 || reads_key spans e.0) && passed (λ v voted. voted && not (v == t)) u (look e.1 u)) || b) (one_more span spans es u)
      ∙ has_case (span_has span e.0) (reads_key spans e.0) (passed (λ v voted. voted && not (v == t)) u (look e.1 u)) (at_entries (filter (λ d. span_has span d.0) es) u) (at_written spans es u)
      ∙ ap (λ b. b || at_written spans (e ∷ es) u)
      (sym (first_has (span_has span e.0) e (filter (λ d. span_has span d.0) es) u))

  written_spans : (spans : List Span) (u : ℕ) → at_written spans (entries x.writers) u ≡ at_spans spans u
  written_spans [] u = none_written (entries x.writers) u
  written_spans (span ∷ spans) u = one_more span spans (entries x.writers) u ∙ ap (λ b. at_span span u || b) (written_spans spans u)

  -- a number is the least one that it is
  abbrev is_it : Option ℕ → ℕ → Bool
  is_it None u = false
  is_it (Some v) u = u == v

  itself_least : (found : Option ℕ) → IsLeast (is_it found) found
  itself_least None = λ u. refl
  itself_least (Some v) = (grind (arith, nat_tests), λ w l. grind (arith, nat_tests, l))

  -- by the keys that were written the same is found as by the ranges that were read
  pub written_is : (spans : List Span) (found : Option ℕ) → by_written t spans found (entries x.writers) ≡ by_reads x t found spans
  written_is spans found =
      least_once (λ u. is_it found u || at_spans spans u) _ _
      (least_of (λ u. is_it found u || at_written spans (entries x.writers) u) (λ u. is_it found u || at_spans spans u) _ (λ u. ap (λ b. is_it found u || b) (written_spans spans u))
      (written_least spans (entries x.writers) (is_it found) found (itself_least found)))
      (spans_least spans (is_it found) found (itself_least found))

  found_least : (own : Sets) → IsLeast (λ u. ((false || at_keys own.writes u) || at_spans own.reads u) || at_scanner own.writes u)
      (lesser (by_reads x t (by_writes x t None own.writes) own.reads) (first_scanner t own.writes x.scanners))
  found_least own =
      least_of_both (λ u. (false || at_keys own.writes u) || at_spans own.reads u) (at_scanner own.writes) (by_reads x t (by_writes x t None own.writes) own.reads) (first_scanner t own.writes x.scanners)
      (spans_least own.reads (λ u. false || at_keys own.writes u) (by_writes x t None own.writes) (keys_least own.writes (λ u. false) None (λ u. refl)))
      (table_least (λ v spans. not (v == t) && reads_meet spans own.writes) x.scanners)

-- ---- the tests by what the transactions read and wrote
and_false : (n : Bool) → false ≡ (n && false)
and_false true = refl
and_false false = refl

and_or : (n a b : Bool) → ((n && a) || (n && b)) ≡ (n && (a || b))
and_or true a b = refl
and_or false a b = refl

abbrev meets_alone : List Span → List Written → Bool
meets_alone spans [] = false
meets_alone spans (w ∷ ws) = reads_alone spans w.key || meets_alone spans ws

abbrev meets_wide : List Span → List Written → Bool
meets_wide spans [] = false
meets_wide spans (w ∷ ws) = reads_wide spans w.key || meets_wide spans ws

one_span : (span : Span) (k : List ℕ) (b : Bool) → same_key span.lo span.hi ≡ b → span_has span k ≡ ((b && same_key span.lo k) || (not b && span_has span k))
one_span span k false e = refl
one_span span k true e = by (same_key span.lo k) refl (span_has span k) refl
  where
    by : (c : Bool) → same_key span.lo k ≡ c → (d : Bool) → span_has span k ≡ d → d ≡ (c || false)
    by true f true g = refl
    by false f false g = refl
    by true f false g = sym g ∙ ap (span_has span) (sym (key.tied span.lo k f)) ∙ ap (λ hi. span_has (record { lo = span.lo; hi = hi }) span.lo) (sym (key.tied span.lo span.hi e)) ∙ key_has span.lo
    by false f true g = sym (key.itself span.lo) ∙ ap (same_key span.lo) (alone_in span k e g) ∙ f

either_span : (spans : List Span) (k : List ℕ) → reads_key spans k ≡ (reads_alone spans k || reads_wide spans k)
either_span [] k = refl
either_span (span ∷ spans) k =
    (λ i. one_span span k (same_key span.lo span.hi) refl i || either_span spans k i)
    ∙ or-cross (is_alone k span) (is_wide k span) (reads_alone spans k) (reads_wide spans k)

either_meet : (spans : List Span) (ws : List Written) → reads_meet spans ws ≡ (meets_alone spans ws || meets_wide spans ws)
either_meet spans [] = refl
either_meet spans (w ∷ ws) =
    (λ i. either_span spans w.key i || either_meet spans ws i)
    ∙ or-cross (reads_alone spans w.key) (reads_wide spans w.key) (meets_alone spans ws) (meets_wide spans ws)

no_span_meets : (ws : List Written) → reads_meet [] ws ≡ false
no_span_meets [] = refl
no_span_meets (w ∷ ws) = no_span_meets ws

meets_more : (span : Span) (spans : List Span) (ws : List Written) → reads_meet (span ∷ spans) ws ≡ (writes_within ws span || reads_meet spans ws)
meets_more span spans [] = refl
meets_more span spans (w ∷ ws) =
    ap (λ b. (span_has span w.key || reads_key spans w.key) || b) (meets_more span spans ws)
    ∙ or-cross (span_has span w.key) (reads_key spans w.key) (writes_within ws span) (reads_meet spans ws)

or_left : (a b : Bool) → a ≡ true → (a || b) ≡ true
or_left a b e = ap (λ c. c || b) e

or_right : (a b : Bool) → b ≡ true → (a || b) ≡ true
or_right true b e = refl
or_right false b e = e

within_of : (ws : List Written) (span : Span) (k : List ℕ) → span_has span k ≡ true → writes_key ws k ≡ true → writes_within ws span ≡ true
within_of [] span k has h = h
within_of (w ∷ ws) span k has h = by (within_of ws span k has) (same_key w.key k) refl h
  where
    by : (writes_key ws k ≡ true → writes_within ws span ≡ true) → (c : Bool) → same_key w.key k ≡ c → (c || writes_key ws k) ≡ true → (span_has span w.key || writes_within ws span) ≡ true
    by next true e h = or_left (span_has span w.key) (writes_within ws span) (ap (span_has span) (key.tied w.key k e) ∙ has)
    by next false e h = or_right (span_has span w.key) (writes_within ws span) (next h)

-- each entry of a table by key is found at its key
abbrev AreFound : {X : Type 0} → FinMap key_cmp X → List (List ℕ × X) → Type 0
AreFound m es = AllByRecursion (λ e. get m e.0 ≡ Some e.1) es

bool_alike : (a b : Bool) → (a ≡ true → b ≡ true) → (b ≡ true → a ≡ true) → a ≡ b
bool_alike true true f g = refl
bool_alike true false f g = sym (f refl)
bool_alike false true f g = g refl
bool_alike false false f g = refl

module _ (x : Index) (t u : ℕ) (sets : Sets) (v : Bool) (tells : TellsOf x u sets v) where
  reader_is : (k : List ℕ) → is_reader x t k u ≡ (not (u == t) && reads_alone sets.reads k)
  reader_is k = by (touch_at x.readers k u) ∙ ap (λ b. not (u == t) && b) (tells.alone_are k)
    where
      by : (o : Option (Unit {0})) → passed (λ w mark. not (w == t)) u o ≡ (not (u == t) && is_some o)
      by None = and_false (not (u == t))
      by (Some mark) = and_true (not (u == t))
        where
          and_true : (n : Bool) → n ≡ (n && true)
          and_true true = refl
          and_true false = refl

  turn : (n w : Bool) → (w && n) ≡ (n && w)
  turn true true = refl
  turn true false = refl
  turn false true = refl
  turn false false = refl

  writer_is : (k : List ℕ) → is_writer x t k u ≡ (not (u == t) && (v && writes_key sets.writes k))
  writer_is k = ap (passed (λ w voted. voted && not (w == t)) u) (tells.writes_are k) ∙ by (not (u == t)) v (writes_key sets.writes k)
    where
      by : (n w r : Bool) → passed (λ (a : ℕ) (voted : Bool). voted && n) u (if r then Some w else None) ≡ (n && (w && r))
      by true true true = refl
      by true false true = refl
      by true true false = refl
      by true false false = refl
      by false true true = refl
      by false false true = refl
      by false true false = refl
      by false false false = refl

  keys_step : (n a w b c : Bool) → ((n && a) || (n && (v && w))) || (n && (b || (v && c))) ≡ (n && ((a || b) || (v && (w || c))))
  keys_step false a w b c = refl
  keys_step true a w b c = by v
    where
      by : (z : Bool) → ((a || (z && w)) || (b || (z && c))) ≡ ((a || b) || (z && (w || c)))
      by true = or-cross a w b c
      by false = or-cross a false b false

  keys_are : (ws : List Written) → at_keys x t ws u ≡ (not (u == t) && (meets_alone sets.reads ws || (v && writes_meet sets.writes ws)))
  keys_are [] = and_false (not (u == t)) ∙ ap (λ b. not (u == t) && b) (and_false v)
  keys_are (w ∷ ws) =
      (λ i. (reader_is w.key i || writer_is w.key i) || keys_are ws i)
      ∙ keys_step (not (u == t)) (reads_alone sets.reads w.key) (writes_key sets.writes w.key) (meets_alone sets.reads ws) (writes_meet sets.writes ws)

  scanner_is : (ws : List Written) → at_scanner x t ws u ≡ (not (u == t) && meets_wide sets.reads ws)
  scanner_is ws = by (look x.scanners u) ∙ ap (λ b. not (u == t) && b) (wide ws)
    where
      by : (o : Option (List Span)) → passed (λ w spans. not (w == t) && reads_meet spans ws) u o ≡ (not (u == t) && reads_meet (spans_in o) ws)
      by None = and_false (not (u == t)) ∙ ap (λ b. not (u == t) && b) (sym (no_span_meets ws))
      by (Some spans) = refl

      wide : (ws : List Written) → reads_meet (spans_in (look x.scanners u)) ws ≡ meets_wide sets.reads ws
      wide [] = refl
      wide (w ∷ ws) = λ i. tells.wide_are w.key i || wide ws i

  -- a voted one that wrote within a range is found among the writers of its keys
  mark_is : (k : List ℕ) (tab : Table Bool) → get x.writers k ≡ Some tab → passed (λ w voted. voted && not (w == t)) u (look tab u) ≡ (not (u == t) && (v && writes_key sets.writes k))
  mark_is k tab g = ap (λ o. passed (λ w voted. voted && not (w == t)) u (look (or_nobody o) u)) (sym g) ∙ writer_is k

  abbrev wrote_in : Span → Bool
  wrote_in span = not (u == t) && (v && writes_within sets.writes span)

  wrote_within : (span : Span) (k : List ℕ) → span_has span k ≡ true → (not (u == t) && (v && writes_key sets.writes k)) ≡ true → wrote_in span ≡ true
  wrote_within span k has = to (not (u == t)) v (writes_key sets.writes k) refl
    where
      to : (n z r : Bool) → writes_key sets.writes k ≡ r → (n && (z && r)) ≡ true → (n && (z && writes_within sets.writes span)) ≡ true
      to true true true f g = within_of sets.writes span k has f
      to true true false f g = absurd (true≢false (sym g))
      to true false r f g = g
      to false z r f g = g

  abbrev in_span : Span → List (List ℕ × Table Bool) → Bool
  in_span span es = at_entries x t (filter (λ e. span_has span e.0) es) u

  found_down : (span : Span) (es : List (List ℕ × Table Bool)) → AreFound x.writers es → in_span span es ≡ true → wrote_in span ≡ true
  found_down span [] are h = absurd (true≢false (sym h))
  found_down span (e ∷ es) are h = by (found_down span es are.1) (span_has span e.0) refl h
    where
      at : (in_span span es ≡ true → wrote_in span ≡ true) → (c : Bool) → (not (u == t) && (v && writes_key sets.writes e.0)) ≡ c → span_has span e.0 ≡ true → (c || in_span span es) ≡ true → wrote_in span ≡ true
      at next true f has g = wrote_within span e.0 has f
      at next false f has g = next g

      by : (in_span span es ≡ true → wrote_in span ≡ true) → (c : Bool) → span_has span e.0 ≡ c
          → at_entries x t (if c then e ∷ filter (λ e. span_has span e.0) es else filter (λ e. span_has span e.0) es) u ≡ true → wrote_in span ≡ true
      by next true has g = at next (not (u == t) && (v && writes_key sets.writes e.0)) refl has (ap (λ c. c || in_span span es) (sym (mark_is e.0 e.1 are.0)) ∙ g)
      by next false has g = next g

  found_at_key : (k : List ℕ) (es : List (List ℕ × Table Bool)) → passed (λ w voted. voted && not (w == t)) u (look (or_nobody (find key_cmp k es)) u) ≡ true → at_entries x t es u ≡ true
  found_at_key k [] h = absurd (true≢false (sym h ∙ ap (passed (λ w voted. voted && not (w == t)) u) (get-empty nat_cmp u)))
  found_at_key k (e ∷ es) h = by (found_at_key k es) (key.ties k e.0) h
    where
      by : (passed (λ w voted. voted && not (w == t)) u (look (or_nobody (find key_cmp k es)) u) ≡ true → at_entries x t es u ≡ true)
          → (c : Bool) → passed (λ w voted. voted && not (w == t)) u (look (or_nobody (cond c (Some e.1) (find key_cmp k es))) u) ≡ true → at_entries x t (e ∷ es) u ≡ true
      by next true g = or_left (passed (λ w voted. voted && not (w == t)) u (look e.1 u)) (at_entries x t es u) g
      by next false g = or_right (passed (λ w voted. voted && not (w == t)) u (look e.1 u)) (at_entries x t es u) (next g)

  alike : (span : Span) (q k : List ℕ) → key_cmp q k ≡ Equal → span_has span k ≡ span_has span q
  alike span q k e = ap (span_has span) (sym (slice_cmp-IsAntisymmetric nat_cmp-IsAntisymmetric q k e))

  found_key : (span : Span) (k : List ℕ) → span_has span k ≡ true → is_writer x t k u ≡ true → at_span x t span u ≡ true
  found_key span k has h =
      found_at_key k (filter (λ e. span_has span e.0) (entries x.writers))
      (ap (λ o. passed (λ w voted. voted && not (w == t)) u (look (or_nobody o) u))
      (find-where_key key_cmp (span_has span) k (alike span k) (entries x.writers)
      ∙ ap (λ b. cond b (find key_cmp k (entries x.writers)) None) has
      ∙ sym (get-entries x.writers k)) ∙ h)

  abbrev AreWritten : List Written → Type 0
  AreWritten ws = (k : List ℕ) → writes_key ws k ≡ true → writes_key sets.writes k ≡ true

  found_up : (span : Span) (ws : List Written) → AreWritten ws → (not (u == t) && (v && writes_within ws span)) ≡ true → at_span x t span u ≡ true
  found_up span [] there h = absurd (true≢false (sym h ∙ ap (λ b. not (u == t) && b) (sym (and_false v)) ∙ sym (and_false (not (u == t)))))
  found_up span (w ∷ ws) there h = by (found_up span ws (λ k e. there k (or_right (same_key w.key k) (writes_key ws k) e))) (span_has span w.key) refl h
    where
      first : writes_key (w ∷ ws) w.key ≡ true
      first = ap (λ b. b || writes_key ws w.key) (key.itself w.key)

      by : ((not (u == t) && (v && writes_within ws span)) ≡ true → at_span x t span u ≡ true)
          → (c : Bool) → span_has span w.key ≡ c → (not (u == t) && (v && (c || writes_within ws span))) ≡ true → at_span x t span u ≡ true
      by next true has g = found_key span w.key has (writer_is w.key ∙ ap (λ b. not (u == t) && (v && b)) (there w.key first) ∙ g)
      by next false has g = next g

  span_is : (are : AreFound x.writers (entries x.writers)) (span : Span) → at_span x t span u ≡ (not (u == t) && (v && writes_within sets.writes span))
  span_is are span = bool_alike (at_span x t span u) (not (u == t) && (v && writes_within sets.writes span)) (found_down span (entries x.writers) are) (found_up span sets.writes (λ k e. e))

  spans_step : (n a b : Bool) → ((n && (v && a)) || (n && (v && b))) ≡ (n && (v && (a || b)))
  spans_step false a b = refl
  spans_step true a b = and_or v a b

  spans_are : (are : AreFound x.writers (entries x.writers)) (spans : List Span) → at_spans x t spans u ≡ (not (u == t) && (v && reads_meet spans sets.writes))
  spans_are are [] = and_false (not (u == t)) ∙ ap (λ b. not (u == t) && b) (and_false v ∙ ap (λ b. v && b) (sym (no_span_meets sets.writes)))
  spans_are are (span ∷ spans) =
      (λ i. span_is are span i || spans_are are spans i)
      ∙ spans_step (not (u == t)) (writes_within sets.writes span) (reads_meet spans sets.writes)
      ∙ ap (λ b. not (u == t) && (v && b)) (sym (meets_more span spans sets.writes))

  all_step : (n a w r s : Bool) → (((false || (n && (a || (v && w)))) || (n && (v && r))) || (n && s)) ≡ (n && ((a || s) || (v && (w || r))))
  all_step false a w r s = refl
  all_step true a w r s = by v a
    where
      by : (z c : Bool) → (((c || (z && w)) || (z && r)) || s) ≡ ((c || s) || (z && (w || r)))
      by true true = refl
      by true false = three w r s
        where
          three : (w r s : Bool) → ((w || r) || s) ≡ (s || (w || r))
          three true r true = refl
          three true r false = refl
          three false true true = refl
          three false true false = refl
          three false false true = refl
          three false false false = refl
      by false true = refl
      by false false = or_false s

  -- whether the index finds u in the way
  found_is : (are : AreFound x.writers (entries x.writers)) (own : Sets)
      → (((false || at_keys x t own.writes u) || at_spans x t own.reads u) || at_scanner x t own.writes u)
      ≡ (not (u == t) && (reads_meet sets.reads own.writes || (v && (writes_meet sets.writes own.writes || reads_meet own.reads sets.writes))))
  found_is are own =
      (λ i. ((false || keys_are own.writes i) || spans_are are own.reads i) || scanner_is own.writes i)
      ∙ all_step (not (u == t)) (meets_alone sets.reads own.writes) (writes_meet sets.writes own.writes) (reads_meet own.reads sets.writes) (meets_wide sets.reads own.writes)
      ∙ ap (λ b. not (u == t) && (b || (v && (writes_meet sets.writes own.writes || reads_meet own.reads sets.writes)))) (sym (either_meet sets.reads own.writes))

-- ---- the voting rule
holds_case : (n r w q : Bool) → (n && (r || (true && (w || q)))) ≡ (false || (n && (r || w || q)))
holds_case false r w q = refl
holds_case true true w q = refl
holds_case true false w q = refl

active_case : (n r : Bool) (z : Bool) → (n && (r || (false && z))) ≡ ((n && r) || false)
active_case false r z = refl
active_case true true z = refl
active_case true false z = refl

absent_case : (n r z : Bool) → r ≡ false → (n && (r || (false && z))) ≡ (false || false)
absent_case n r z e = ap (λ b. n && (b || false)) e ∙ sym (and_false n)

rule_case : (t u : ℕ) (own : Sets) (vote : Option Vote) (os : Option (List Operation)) → (is_some vote ≡ true → os ≡ None)
    → (not (u == t) && (reads_meet (sets_in vote (operations_in os)).reads own.writes
    || (is_some vote && (writes_meet (sets_in vote (operations_in os)).writes own.writes || reads_meet own.reads (sets_in vote (operations_in os)).writes))))
    ≡ (passed (λ w os. not (w == t) && active_holds own os) u os || passed (λ w vote. not (w == t) && voted_holds own vote.sets) u vote)
rule_case t u own (Some vote) None apart = holds_case (not (u == t)) (reads_meet vote.sets.reads own.writes) (writes_meet vote.sets.writes own.writes) (reads_meet own.reads vote.sets.writes)
rule_case t u own (Some vote) (Some os) apart = absurd (let z : Some os ≡ None = apart refl in cc)
rule_case t u own None (Some os) apart = active_case (not (u == t)) (reads_meet (sets_of os).reads own.writes) (writes_meet (sets_of os).writes own.writes || reads_meet own.reads (sets_of os).writes)
rule_case t u own None None apart = absent_case (not (u == t)) (reads_meet [] own.writes) (writes_meet [] own.writes || reads_meet own.reads []) (no_span_meets own.writes)

pub holder_is : (x : Index) (b : EngineState) (t : ℕ) (own : Sets) → IsIndexOf x b → AreApart b
    → lesser (by_reads x t (by_writes x t None own.writes) own.reads) (first_scanner t own.writes x.scanners) ≡ holder_of b t own
holder_is x b t own is apart =
    least_once in_way _ (holder_of b t own)
    (least_of (λ u. ((false || at_keys x t own.writes u) || at_spans x t own.reads u) || at_scanner x t own.writes u) in_way _ same (found_least x t own))
    (least_of_both _ _ _ _ (table_least (λ w os. not (w == t) && active_holds own os) b.active) (table_least (λ w vote. not (w == t) && voted_holds own vote.sets) b.voted))
  where
    in_way : ℕ → Bool
    in_way u = passed (λ w os. not (w == t) && active_holds own os) u (look b.active u) || passed (λ w vote. not (w == t) && voted_holds own vote.sets) u (look b.voted u)

    same : (u : ℕ) → (((false || at_keys x t own.writes u) || at_spans x t own.reads u) || at_scanner x t own.writes u) ≡ in_way u
    same u = found_is x t u (sets_at b u) (holds b.voted u) (is u) (all_found x.writers) own ∙ rule_case t u own (look b.voted u) (look b.active u) (apart u)

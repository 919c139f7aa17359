-- The tests of a knot.
use Rattle.std.specs.Prelude.{ℕ, Bool, true, false, not, ◌==◌, ◌&&◌, ◌||◌, nat_lt, if◌then◌else◌, List, [], ◌∷◌, Option, None, Some}
use Rattle.std.specs.List.{list_any, list_all}
use Rattle.co_wait.specs.declared.knot.Knot.{Knot}
use Rattle.co_wait.specs.declared.knot.Knot.TheVariants.{Cycle, Order}
use Rattle.co_wait.specs.declared.knot.Rank.{Rank}
use Rattle.co_wait.specs.declared.wait.Wait.{Wait}

-- the same wait
abbrev pub same_wait : Wait → Wait → Bool
same_wait v w = (v.member == w.member) && ((v.held == w.held) && (v.by == w.by))

abbrev pub has_wait : List Wait → Wait → Bool
has_wait waits w = list_any (λ v. same_wait v w) waits

abbrev pub leads_on : ℕ → List Wait → ℕ → Bool
leads_on t [] u = t == u
leads_on t (w ∷ legs) u = (t == w.held) && leads_on w.by legs u

abbrev pub goes_round : List Wait → Bool
goes_round [] = false
goes_round (w ∷ legs) = leads_on w.by legs w.held

-- no two elements have the same number
abbrev pub all_apart : {X : Type 0} → (X → ℕ) → List X → Bool
all_apart number [] = true
all_apart number (x ∷ xs) = not (list_any (λ y. number y == number x) xs) && all_apart number xs

-- the transaction waits, or is waited for
abbrev pub in_waits : List Wait → ℕ → Bool
in_waits waits t = list_any (λ w. (w.held == t) || (w.by == t)) waits

-- the first rank of a transaction
abbrev pub rank_of : List Rank → ℕ → Option ℕ
rank_of [] t = None
rank_of (r ∷ ranks) t = if r.txn == t then Some r.rank else rank_of ranks t

abbrev pub is_below : Option ℕ → Option ℕ → Bool
is_below (Some lesser) (Some greater) = nat_lt lesser greater
is_below (Some lesser) None = false
is_below None greater = false

-- the wait leads to a transaction of a lesser rank
abbrev pub falls : List Rank → Wait → Bool
falls ranks w = is_below (rank_of ranks w.by) (rank_of ranks w.held)

abbrev pub cycle_test : List Wait → List Wait → Bool
cycle_test waits legs = list_all (has_wait waits) legs && all_apart (λ w. w.held) legs && goes_round legs

abbrev pub order_test : List Wait → List Rank → Bool
order_test waits ranks = all_apart (λ r. r.txn) ranks && list_all (λ r. in_waits waits r.txn) ranks && list_all (falls ranks) waits

abbrev pub knot_test : List Wait → Knot → Bool
knot_test waits (Cycle legs) = cycle_test waits legs
knot_test waits (Order ranks) = order_test waits ranks

abbrev pub is_wait_before : Wait → Wait → Bool
is_wait_before w v = nat_lt w.held v.held || ((w.held == v.held) && nat_lt w.member v.member)

-- each one comes before the next one
abbrev pub goes_up : Wait → List Wait → Bool
goes_up w [] = true
goes_up w (v ∷ waits) = is_wait_before w v && goes_up v waits

abbrev pub ascends : List Wait → Bool
ascends [] = true
ascends (w ∷ waits) = goes_up w waits

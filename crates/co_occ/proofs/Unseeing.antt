-- Overwritten reads, found by the write sets that are kept.
use Rattle.std.proofs.Common.{◌≡◌, ℕ, ◌+◌, ◌-◌, ◌<◌, ◌≤◌, nat_le, nat_lt, Bool, true, false, List, [], ◌∷◌, ◌++◌, length, take, drop, get_or, reverse, map, filter, Option, None, Some, refl, sym, ap, ◌∙◌, if◌then◌else◌, arith, zero, suc, min}
use Rattle.std.proofs.lemmas.Bool.Decides.{nat_tests}
use Rattle.std.proofs.lemmas.List.{length-reverse, length-drop, length-map, take_more, reverse-append, take-append-le, take-append-drop, reverse-reverse}
use Rattle.co_base.specs.Span.{Span, span_has}
use Rattle.co_base.specs.declared.written.Written.{Written}
use Rattle.co_state.specs.declared.engine_state.Install.{Install}
use Rattle.co_state.specs.declared.engine_state.Operation.{Operation}
use Rattle.co_state.specs.Changes.{span_read}
use Rattle.co_state.specs.Search.{least_with}
use Rattle.co_state.specs.StaleRead.{keys_since, overwritten, stale_keys}
use Rattle.co_state.specs.Table.{lesser}
use Rattle.co_occ.specs.declared.reads.Read.{Read}
use Rattle.co_occ.specs.declared.reads.Reads.{Reads}
use Rattle.co_occ.specs.Kept.{with_read, reads_of}
use Rattle.co_occ.specs.Old.{installed_writes, writes_after}
use Rattle.co_index.specs.Listed.{keys_that}
use Rattle.co_index.proofs.Least.{least_with-append}
use Rattle.co_occ.specs.Last.{keys_after}
use Rattle.co_occ.specs.Unseen.{keys_written, keys_unseen, keys_overwritten}

-- one read more is searched
newest_more : (xs : List Read) (i : ℕ) (x : Read) → i < length xs → x ≡ get_or xs i x → reverse (take (i + 1) xs) ≡ x ∷ reverse (take i xs)
newest_more xs i x h is =
    ap reverse (take_more xs i x h) ∙ reverse-append (take i xs) (get_or xs i x ∷ []) ∙ ap (λ y. y ∷ reverse (take i xs)) (sym is)

pub after_more : (found : Option (List ℕ)) (es : List (List ℕ × ℕ)) (xs : List Read) (p place : ℕ) (x : Read) → p < length xs → p + 1 ≡ place → x ≡ get_or xs p x
    → least_with (least_with found (keys_that (λ n. nat_lt x.stamp n) (filter (λ e. span_has x.range e.0) es))) (keys_after es (reverse (take p xs))) ≡ least_with found (keys_after es (reverse (take place xs)))
after_more found es xs p place x h e at =
    sym (least_with-append found _ _) ∙ ap (λ rs. least_with found (keys_after es rs)) (sym (newest_more xs p x h at)) ∙ ap (λ n. least_with found (keys_after es (reverse (take n xs)))) e

-- ---- the keys since a read
map-append : (xs ys : List Install) → map (λ i. i.writes) (xs ++ ys) ≡ map (λ i. i.writes) xs ++ map (λ i. i.writes) ys
map-append [] ys = refl
map-append (x ∷ xs) ys = ap (λ zs. x.writes ∷ zs) (map-append xs ys)

map-reverse : (is : List Install) → map (λ i. i.writes) (reverse is) ≡ reverse (map (λ i. i.writes) is)
map-reverse [] = refl
map-reverse (i ∷ is) =
    ap (map (λ i. i.writes)) (reverse-append (i ∷ []) is) ∙ map-append (reverse is) (i ∷ []) ∙ ap (λ xs. xs ++ i.writes ∷ []) (map-reverse is)
    ∙ sym (reverse-append (i.writes ∷ []) (map (λ i. i.writes) is))

pub length-installed : (is : List Install) → length (installed_writes is) ≡ length is
length-installed is = length-map (reverse is) (λ i. i.writes) ∙ length-reverse is

pub installed-more : (is : List Install) (i : Install) → installed_writes (i ∷ is) ≡ installed_writes is ++ i.writes ∷ []
installed-more is i = ap (map (λ i. i.writes)) (reverse-append (i ∷ []) is) ∙ map-append (reverse is) (i ∷ [])

since_at : (is : List Install) (i : Install) (stamp : ℕ) (rest : List (List ℕ)) → (b : Bool) → nat_le stamp (length is) ≡ b → rest ≡ keys_written (take (length is - stamp) (map (λ i. i.writes) is))
    → (if b then map (λ w. w.key) i.writes ++ rest else []) ≡ keys_written (take (suc (length is) - stamp) (i.writes ∷ map (λ i. i.writes) is))
since_at is i stamp rest true h r =
    let e : suc (length is - stamp) ≡ suc (length is) - stamp = grind (arith, nat_tests, h) in
    ap (λ ks. map (λ w. w.key) i.writes ++ ks) r ∙ ap (λ n. keys_written (take n (i.writes ∷ map (λ i. i.writes) is))) e
since_at is i stamp rest false h r =
    let e : 0 ≡ suc (length is) - stamp = grind (arith, nat_tests, h) in
    ap (λ n. keys_written (take n (i.writes ∷ map (λ i. i.writes) is))) e

pub take_none : {A : Type 0} (n : ℕ) → ◌≡◌ {A = List A} (take n []) []
take_none zero = refl
take_none (suc n) = refl

-- the newest installs, so many as came after the first so many
since_take : (is : List Install) (stamp : ℕ) → keys_since is stamp ≡ keys_written (take (length is - stamp) (map (λ i. i.writes) is))
since_take [] stamp = ap keys_written (sym (take_none {A = List Written} (0 - stamp)))
since_take (i ∷ is) stamp = since_at is i stamp (keys_since is stamp) (nat_le stamp (length is)) refl (since_take is stamp)

-- the newest of a list that lost its oldest elements
take_kept : (n k : ℕ) (wss : List (List Written)) → n ≤ length wss - k → take n (reverse (drop k wss)) ≡ take n (reverse wss)
take_kept n k wss h =
    let e : reverse wss ≡ reverse (drop k wss) ++ reverse (take k wss) = ap reverse (sym (take-append-drop k wss)) ∙ reverse-append (take k wss) (drop k wss) in
    let l : length (reverse (drop k wss)) ≡ length wss - k = length-reverse (drop k wss) ∙ length-drop k wss in
    sym (ap (take n) e ∙ take-append-le n (reverse (drop k wss)) (reverse (take k wss)) (omega (arith, h, l)))

reverse-map : (is : List Install) → reverse (installed_writes is) ≡ map (λ i. i.writes) is
reverse-map is = ap reverse (map-reverse is) ∙ reverse-reverse (map (λ i. i.writes) is)

-- an old read is not older than the oldest one
pub unseen_alike : (is : List Install) (oldest stamp : ℕ) → oldest ≤ stamp → keys_since is stamp ≡ keys_unseen (drop oldest (installed_writes is)) (length is) stamp
unseen_alike is oldest stamp h =
    since_take is stamp
    ∙ ap keys_written (ap (take (length is - stamp)) (sym (reverse-map is))
    ∙ sym (take_kept (length is - stamp) oldest (installed_writes is) (let l = length-installed is in omega (arith, h, l))))

-- ---- all reads of a transaction
abbrev pub NotOlder : Option ℕ → ℕ → Type 0
NotOlder None stamp = ⊥
NotOlder (Some oldest) stamp = oldest ≤ stamp

abbrev pub AllNotOlder : Option ℕ → List Read → Type 0
AllNotOlder o [] = Unit {0}
AllNotOlder o (r ∷ rs) = NotOlder o r.stamp × AllNotOlder o rs

lower_one : (o a : Option ℕ) (stamp : ℕ) → NotOlder a stamp → NotOlder (lesser o a) stamp
lower_one o None stamp h = absurd h
lower_one None (Some n) stamp h = h
lower_one (Some m) (Some n) stamp h = let k : n ≤ stamp = h in let e : min m n ≤ stamp = omega (arith, k) in e

lower_all : (o a : Option ℕ) (rs : List Read) → AllNotOlder a rs → AllNotOlder (lesser o a) rs
lower_all o a [] h = tt
lower_all o a (r ∷ rs) h = (lower_one o a r.stamp h.0, lower_all o a rs h.1)

own_one : (a : Option ℕ) (stamp : ℕ) → NotOlder (lesser (Some stamp) a) stamp
own_one None stamp = let e : stamp ≤ stamp = omega arith in e
own_one (Some n) stamp = let e : min stamp n ≤ stamp = omega arith in e

more_reads : (span : Option Span) (stamp : ℕ) (reads : Reads) → AllNotOlder reads.oldest reads.list → AllNotOlder (with_read span stamp reads).oldest (with_read span stamp reads).list
more_reads None stamp reads h = h
more_reads (Some span) stamp reads h = (own_one reads.oldest stamp, lower_all (Some stamp) reads.oldest reads.list h)

pub reads_not_older : (os : List Operation) → AllNotOlder (reads_of os).oldest (reads_of os).list
reads_not_older [] = tt
reads_not_older (o ∷ os) = more_reads (span_read o.op) o.stamp (reads_of os) (reads_not_older os)

right_one : (a o : Option ℕ) (stamp : ℕ) → NotOlder a stamp → NotOlder (lesser a o) stamp
right_one None o stamp h = absurd h
right_one (Some m) None stamp h = h
right_one (Some m) (Some n) stamp h = let k : m ≤ stamp = h in let e : min m n ≤ stamp = omega (arith, k) in e

pub lower_right : (a o : Option ℕ) (rs : List Read) → AllNotOlder a rs → AllNotOlder (lesser a o) rs
lower_right a o [] h = tt
lower_right a o (r ∷ rs) h = (right_one a o r.stamp h.0, lower_right a o rs h.1)

stale_step : (is : List Install) (span : Option Span) (stamp : ℕ) (reads : Reads) (o : Option ℕ) (rest : List (List ℕ)) → AllNotOlder o (with_read span stamp reads).list
    → (AllNotOlder o reads.list → rest ≡ keys_overwritten (writes_after o (installed_writes is)) (length is) reads.list)
    → overwritten span (keys_since is stamp) ++ rest ≡ keys_overwritten (writes_after o (installed_writes is)) (length is) (with_read span stamp reads).list
stale_step is None stamp reads o rest h next = next h
stale_step is (Some span) stamp reads None rest h next = absurd h.0
stale_step is (Some span) stamp reads (Some oldest) rest h next = (λ i. filter (span_has span) (unseen_alike is oldest stamp h.0 i) ++ next h.1 i)

-- what was read and written since, by the write sets after the oldest read
pub stale_alike : (is : List Install) (os : List Operation) (o : Option ℕ) → AllNotOlder o (reads_of os).list
    → stale_keys is os ≡ keys_overwritten (writes_after o (installed_writes is)) (length is) (reads_of os).list
stale_alike is [] o h = refl
stale_alike is (x ∷ os) o h = stale_step is (span_read x.op) x.stamp (reads_of os) o (stale_keys is os) h (stale_alike is os o)

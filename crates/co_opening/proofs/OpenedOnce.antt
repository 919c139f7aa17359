-- A directory that tells its files may be opened, or there is one cause for which it is refused.
use Rattle.std.proofs.Common.{◌≡◌, ◌⊎◌, inl, inr, ℕ, zero, suc, ◌≤◌, ◌==◌, Bool, true, false, List, length, Option, Result, Ok, Err, IsErr, IsErrAnd, refl, sym, ap, subst, ◌∙◌, arith}
use Rattle.std.proofs.lemmas.Bool.{eqb-true, eqb-false}
use Rattle.std.specs.FinMap.{keys}
use Rattle.std.specs.List.{AllByRecursion}
use Rattle.co_base.specs.declared.head.Head.{Head}
use Rattle.co_base.specs.declared.node.Node.{Node}
use Rattle.co_base.specs.declared.node.Node.TheVariants.{Member, Coord}
use Rattle.co_outside.specs.declared.spot.Spot.{Spot}
use Rattle.co_outside.specs.Home.{File}
use Rattle.co_record.specs.declared.record.Record.{Record}
use Rattle.co_log.specs.LogView.{spot_of}
use Rattle.co_log.specs.NodeFiles.{newest_first}
use Rattle.co_log.proofs.Judged.{current_once, one_current, none_current}
use Rattle.co_plain.specs.CoordView.{recovered_commits}
use Rattle.co_plain.specs.MemberView.{Numbers, recovered_view}
use Rattle.co_plain.specs.Opening.{Found, with_all, numbers_in, union_to, used_numbers}
use Rattle.co_durable.specs.declared.fault.WorldFault.{WorldFault}
use Rattle.co_durable.specs.declared.fault.WorldFault.TheVariants.{Device, Differs, InUse, Bad, Full, Count, Old, Memory}
use Rattle.co_durable.specs.Nodes.{numbered, member_nodes, coord_nodes, nodes_of}
use Rattle.co_durable.specs.Told.{IsTold, AreTold}
use Rattle.co_durable.proofs.Firsts.{all_front, all_back, both_first, all_good}
use Rattle.co_durable.proofs.ReadOnce.{records_once, undurable_once, standing_or_not}
use Rattle.co_opening.specs.Fit.{AreFit}
use Rattle.co_opening.specs.Found.{IsFoundIn, AreFound}
use Rattle.co_opening.specs.InUse.{IsUnusedNode, IsInUse}
use Rattle.co_opening.specs.Opened.{IsUnopened, IsOfFound, IsExact, IsExcused}
use Rattle.co_opening.specs.Versions.{HasVersion, IsOfVersion, IsNewIn, IsOldIn}

-- ---- the version of the current file

has_version_once : (node : Node) (a b : List ℕ) (part other version more : ℕ) → HasVersion node a b part version → HasVersion node a b other more → (part ≡ other) × (version ≡ more)
has_version_once node a b part other version more one two = elim one [
  | inl none ↦ elim two [
    | inl again ↦ (none.0 ∙ sym again.0, none.1 ∙ sym again.1)
    | inr l ↦ elim l [ inl d ↦ absurd (none_current node more d.1.0 a b d.1.1 none.2 d.1.2) | inr d ↦ absurd (none_current node more d.1.0 b a d.1.1 none.3 d.1.2) ]
  ]
  | inr k ↦ elim k [
    | inl c ↦ elim two [
      | inl none ↦ absurd (none_current node version c.1.0 a b c.1.1 none.2 c.1.2)
      | inr l ↦ elim l [ inl d ↦ (c.0 ∙ sym d.0, (current_once node version more c.1.0 d.1.0 a b c.1.1 d.1.1 c.1.2 d.1.2).0) | inr d ↦ absurd (one_current node version more c.1.0 d.1.0 a b c.1.1 d.1.1 c.1.2 d.1.2) ]
    ]
    | inr c ↦ elim two [
      | inl none ↦ absurd (none_current node version c.1.0 b a c.1.1 none.3 c.1.2)
      | inr l ↦ elim l [ inl d ↦ absurd (one_current node version more c.1.0 d.1.0 b a c.1.1 d.1.1 c.1.2 d.1.2) | inr d ↦ (c.0 ∙ sym d.0, (current_once node version more c.1.0 d.1.0 b a c.1.1 d.1.1 c.1.2 d.1.2).0) ]
    ]
  ]
]

version_once : (file : Spot → Option File) (node : Node) (part other version more : ℕ) → IsTold file node → IsOfVersion file node part version → IsOfVersion file node other more → (part ≡ other) × (version ≡ more)
version_once file node part other version more told c d =
    let same_a : c.a ≡ d.a = sym (c.told_a told.0 told.2) ∙ d.told_a told.0 told.2 in
    let same_b : c.b ≡ d.b = sym (c.told_b told.1 told.3) ∙ d.told_b told.1 told.3 in
    has_version_once node d.a d.b part other version more
    (subst (λ (bytes : List ℕ). HasVersion node d.a bytes part version) same_b (subst (λ (bytes : List ℕ). HasVersion node bytes c.b part version) same_a c.current)) d.current

pub new_not_old : (file : Spot → Option File) (spot : Spot) (node : Node) → IsTold file node → IsNewIn file node → IsOldIn file spot node → ⊥
new_not_old file spot node told new old = let e : 2 ≡ 1 = (version_once file node new.0 old.0 2 1 told new.1 old.2).1 in omega (arith, e)

old_once : (file : Spot → Option File) (spot other : Spot) (node : Node) → IsTold file node → IsOldIn file spot node → IsOldIn file other node → spot ≡ other
old_once file spot other node told one two = one.1 ∙ ap (spot_of node) (version_once file node one.0 two.0 1 1 told one.2 two.2).0 ∙ sym two.1

-- ---- files in use

unused_not_in_use : (file : Spot → Option File) (spot : Spot) (node : Node) → IsTold file node → IsUnusedNode file node → IsInUse file spot node → ⊥
unused_not_in_use file spot node told unused used = elim used [
  | inl a ↦ omega (arith, a.1 told.0 told.2, unused.0 told.0 told.2)
  | inr b ↦ omega (arith, b.2 told.1 told.3, unused.1 told.1 told.3)
]

in_use_once : (file : Spot → Option File) (spot other : Spot) (node : Node) → IsTold file node → IsInUse file spot node → IsInUse file other node → spot ≡ other
in_use_once file spot other node told one two = elim one [
  | inl a ↦ elim two [ inl b ↦ a.0 ∙ sym b.0 | inr b ↦ absurd (omega (arith, a.1 told.0 told.2, b.1 told.0 told.2)) ]
  | inr a ↦ elim two [ inl b ↦ absurd (omega (arith, b.1 told.0 told.2, a.1 told.0 told.2)) | inr b ↦ a.0 ∙ sym b.0 ]
]

-- ---- the numbers that stand in the logs

union_same : (n : ℕ) (f g : ℕ → Numbers) → ((k : ℕ) → 1 ≤ k → k ≤ n → f k ≡ g k) → union_to n f ≡ union_to n g
union_same zero f g same = refl
union_same (suc n) f g same =
    ap (λ (m : Numbers). with_all m (f (suc n))) (union_same n f g (λ k low high. same k low (omega (arith, high)))) ∙ ap (λ (m : Numbers). with_all (union_to n g) m) (same (suc n) (omega arith) (omega arith))

found_once : (file : Spot → Option File) (node : Node) (f g : Found) → IsTold file node → IsFoundIn file node f → IsFoundIn file node g → f.records ≡ g.records
found_once file node f g told c d = c.records ∙ ap newest_first (records_once file node c.items d.items told (c.part, c.current) (d.part, d.current)) ∙ sym d.records

-- what is so of all nodes of a sort is so of each
numbered_all : (P : Node → Type 0) (node : ℕ → Node) (count n : ℕ) → 1 ≤ n → n ≤ count → AllByRecursion P (numbered node count) → P (node n)
numbered_all P node zero n low high all = absurd (omega (arith, low, high))
numbered_all P node (suc count) n low high all =
    by (n == suc count) refl (λ other. numbered_all P node count n low (omega (arith, high, other)) (all_front P (numbered node count) _ all))
  where
    by : (b : Bool) → (n == suc count) ≡ b → ((n ≡ suc count → ⊥) → P (node n)) → P (node n)
    by true e rest = subst (λ k. P (node k)) (sym (eqb-true n (suc count) e)) (all_back P (numbered node count) _ all).0
    by false e rest = rest (eqb-false n (suc count) e)

used_once : (file : Spot → Option File) (members coords : ℕ) (fm gm fc gc : ℕ → Found) → AreTold file members coords → AreFound file members coords fm fc → AreFound file members coords gm gc
    → used_numbers members coords fm fc ≡ used_numbers members coords gm gc
used_once file members coords fm gm fc gc told one two =
    let these = all_front (IsTold file) (member_nodes members) (coord_nodes coords) told in
    let those = all_back (IsTold file) (member_nodes members) (coord_nodes coords) told in
    ap (λ (n : Numbers). with_all n (union_to coords (λ c. (recovered_commits (fc c).records).seen)))
    (union_same members (λ m. numbers_in (recovered_view (fm m).records)) (λ m. numbers_in (recovered_view (gm m).records))
    (λ m low high. ap (λ (rs : List Record). numbers_in (recovered_view rs)) (found_once file (Member m) (fm m) (gm m) (numbered_all (IsTold file) Member members m low high these) (one.member m low high) (two.member m low high))))
    ∙ ap (λ (n : Numbers). with_all (union_to members (λ m. numbers_in (recovered_view (gm m).records))) n)
    (union_same coords (λ c. (recovered_commits (fc c).records).seen) (λ c. (recovered_commits (gc c).records).seen)
    (λ c low high. ap (λ (rs : List Record). (recovered_commits rs).seen) (found_once file (Coord c) (fc c) (gc c) (numbered_all (IsTold file) Coord coords c low high those) (one.coord c low high) (two.coord c low high))))

-- ---- whole directories

module _ (file : Spot → Option File) (head : Head) (resume : Bool) (told : AreTold file (length head.kinds) head.coords) where
  abbrev members : ℕ
  members = length head.kinds

  abbrev nodes : List Node
  nodes = nodes_of members head.coords

  both_ways : {A : Type 0} → resume ≡ false → resume ≡ true → A
  both_ways fresh again = absurd (let z : false ≡ true = sym fresh ∙ again in cc)

  fit_not_bad : AreFit file head resume → (spot : Spot) (at : ℕ) → IsUnopened file head resume (Bad spot at) → ⊥
  fit_not_bad fit spot at u = standing_or_not file members head.coords told fit.members_stand fit.coords_stand (Bad spot at) tt u.1

  fit_not_full : AreFit file head resume → (spot : Spot) → IsUnopened file head resume (Full spot) → ⊥
  fit_not_full fit spot u = standing_or_not file members head.coords told fit.members_stand fit.coords_stand (Full spot) tt u.1

  old_not_bad : (spot other : Spot) (at : ℕ) → IsUnopened file head resume (Old spot) → IsUnopened file head resume (Bad other at) → ⊥
  old_not_bad spot other at o u = standing_or_not file members head.coords told o.1.members_stand o.1.coords_stand (Bad other at) tt u.1

  old_not_full : (spot other : Spot) → IsUnopened file head resume (Old spot) → IsUnopened file head resume (Full other) → ⊥
  old_not_full spot other o u = standing_or_not file members head.coords told o.1.members_stand o.1.coords_stand (Full other) tt u.1

  fit_not_old : AreFit file head resume → (spot : Spot) → IsUnopened file head resume (Old spot) → ⊥
  fit_not_old fit spot o = all_good (IsTold file) (IsNewIn file) (IsNewIn file) (IsOldIn file spot) nodes (new_not_old file spot) told fit.newest o.1.first

  old_is_once : (spot other : Spot) → IsUnopened file head resume (Old spot) → IsUnopened file head resume (Old other) → spot ≡ other
  old_is_once spot other one two =
      let both = both_first (IsTold file) (IsNewIn file) (IsOldIn file spot) (IsNewIn file) (IsOldIn file other) nodes (new_not_old file other) (new_not_old file spot) told one.1.first two.1.first in
      old_once file spot other both.here both.holds both.bad both.wrong

  use_is_once : (spot other : Spot) → IsUnopened file head resume (InUse spot) → IsUnopened file head resume (InUse other) → spot ≡ other
  use_is_once spot other one two =
      let both = both_first (IsTold file) (IsUnusedNode file) (IsInUse file spot) (IsUnusedNode file) (IsInUse file other) nodes (unused_not_in_use file other) (unused_not_in_use file spot) told one.1 two.1 in
      in_use_once file spot other both.here both.holds both.bad both.wrong

  -- two causes are one
  pub refused_once : (this that : WorldFault) → IsOfFound this → IsOfFound that → IsUnopened file head resume this → IsUnopened file head resume that → this ≡ that
  refused_once (InUse spot) (InUse other) own its u v = ap InUse (use_is_once spot other u v)
  refused_once (InUse spot) (Bad other at) own its u v = both_ways u.0 v.0
  refused_once (InUse spot) (Full other) own its u v = both_ways u.0 v.0
  refused_once (InUse spot) Count own its u v = both_ways u.0 v.0
  refused_once (InUse spot) (Old other) own its u v = both_ways u.0 v.0
  refused_once (Bad spot at) (InUse other) own its u v = both_ways v.0 u.0
  refused_once (Bad spot at) (Bad other place) own its u v = undurable_once file members head.coords (Bad spot at) (Bad other place) told tt tt u.1 v.1
  refused_once (Bad spot at) (Full other) own its u v = undurable_once file members head.coords (Bad spot at) (Full other) told tt tt u.1 v.1
  refused_once (Bad spot at) Count own its u v = absurd (fit_not_bad v.1 spot at u)
  refused_once (Bad spot at) (Old other) own its u v = absurd (old_not_bad other spot at v u)
  refused_once (Full spot) (InUse other) own its u v = both_ways v.0 u.0
  refused_once (Full spot) (Bad other place) own its u v = undurable_once file members head.coords (Full spot) (Bad other place) told tt tt u.1 v.1
  refused_once (Full spot) (Full other) own its u v = undurable_once file members head.coords (Full spot) (Full other) told tt tt u.1 v.1
  refused_once (Full spot) Count own its u v = absurd (fit_not_full v.1 spot u)
  refused_once (Full spot) (Old other) own its u v = absurd (old_not_full other spot v u)
  refused_once Count (InUse other) own its u v = both_ways v.0 u.0
  refused_once Count (Bad other place) own its u v = absurd (fit_not_bad u.1 other place v)
  refused_once Count (Full other) own its u v = absurd (fit_not_full u.1 other v)
  refused_once Count Count own its u v = refl
  refused_once Count (Old other) own its u v = absurd (fit_not_old u.1 other v)
  refused_once (Old spot) (InUse other) own its u v = both_ways v.0 u.0
  refused_once (Old spot) (Bad other place) own its u v = absurd (old_not_bad spot other place u v)
  refused_once (Old spot) (Full other) own its u v = absurd (old_not_full spot other u v)
  refused_once (Old spot) Count own its u v = absurd (fit_not_old v.1 spot u)
  refused_once (Old spot) (Old other) own its u v = ap Old (old_is_once spot other u v)
  refused_once (InUse spot) (Device other) own its u v = absurd its
  refused_once (InUse spot) (Differs other place kept read) own its u v = absurd v
  refused_once (InUse spot) Memory own its u v = absurd its
  refused_once (Bad spot at) (Device other) own its u v = absurd its
  refused_once (Bad spot at) (Differs other place kept read) own its u v = absurd v
  refused_once (Bad spot at) Memory own its u v = absurd its
  refused_once (Full spot) (Device other) own its u v = absurd its
  refused_once (Full spot) (Differs other place kept read) own its u v = absurd v
  refused_once (Full spot) Memory own its u v = absurd its
  refused_once Count (Device other) own its u v = absurd its
  refused_once Count (Differs other place kept read) own its u v = absurd v
  refused_once Count Memory own its u v = absurd its
  refused_once (Old spot) (Device other) own its u v = absurd its
  refused_once (Old spot) (Differs other place kept read) own its u v = absurd v
  refused_once (Old spot) Memory own its u v = absurd its
  refused_once (Device spot) that own its u v = absurd own
  refused_once (Differs spot at kept read) that own its u v = absurd u
  refused_once Memory that own its u v = absurd own

  -- files that are fit, and in whose logs no more numbers stand than may be, are not refused
  pub fit_or_refused : (fm fc : ℕ → Found) (fault : WorldFault) → IsOfFound fault → AreFit file head resume → AreFound file members head.coords fm fc → length (keys (used_numbers members head.coords fm fc)) ≤ 65536 → IsUnopened file head resume fault → ⊥
  fit_or_refused fm fc (InUse spot) own fit found few u = all_good (IsTold file) (IsUnusedNode file) (IsUnusedNode file) (IsInUse file spot) nodes (unused_not_in_use file spot) told (fit.unused u.0) u.1
  fit_or_refused fm fc (Bad spot at) own fit found few u = fit_not_bad fit spot at u
  fit_or_refused fm fc (Full spot) own fit found few u = fit_not_full fit spot u
  fit_or_refused fm fc Count own fit found few u =
      let many = u.2 in
      let same = used_once file members head.coords fm many.found_member fc many.found_coord told found many.found in
      let most : length (keys (used_numbers members head.coords many.found_member many.found_coord)) ≤ 65536 = subst (λ (n : Numbers). length (keys n) ≤ 65536) same few in
      omega (arith, most, many.many)
  fit_or_refused fm fc (Old spot) own fit found few u = fit_not_old fit spot u
  fit_or_refused fm fc (Device spot) own fit found few u = own
  fit_or_refused fm fc (Differs spot at kept read) own fit found few u = u
  fit_or_refused fm fc Memory own fit found few u = own

  -- what is refused is refused exactly
  pub refused_exactly : {T : Type 0} (result : Result T WorldFault) (fault : WorldFault) → IsErr result × IsErrAnd result (λ e. e ≡ fault) → IsUnopened file head resume fault → IsExact file head resume result
  refused_exactly (Ok x) fault is u = absurd (let z : false ≡ true = is.0 in cc)
  refused_exactly {T} (Err e) fault is u = subst (λ (f : WorldFault). IsExact {T = T} file head resume (Err f)) (sym is.1) (by fault u)
    where
      by : (f : WorldFault) → IsUnopened file head resume f → (why : WorldFault) → IsOfFound why → IsUnopened file head resume why → (f ≡ why) ⊎ IsExcused f
      by (Device spot) refused = λ why of other. inr tt
      by (Differs spot at kept read) refused = absurd refused
      by (InUse spot) refused = λ why of other. inl (refused_once (InUse spot) why tt of refused other)
      by (Bad spot at) refused = λ why of other. inl (refused_once (Bad spot at) why tt of refused other)
      by (Full spot) refused = λ why of other. inl (refused_once (Full spot) why tt of refused other)
      by Count refused = λ why of other. inl (refused_once Count why tt of refused other)
      by (Old spot) refused = λ why of other. inl (refused_once (Old spot) why tt of refused other)
      by Memory refused = λ why of other. inr tt

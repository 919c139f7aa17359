-- What a sound run leaves is soundly found by a run over it with the same nodes.
use Rattle.std.proofs.Common.{◌≡◌, ◌⊎◌, inl, inr, ℕ, ◌≤◌, Bool, true, false, ◌&&◌, List, [], ◌∷◌, length, Option, refl, sym, ap, subst, ◌∙◌, arith}
use Rattle.std.proofs.lemmas.Bool.{leb-true}
use Rattle.std.specs.Prelude.{nat_le, if◌then◌else◌}
use Rattle.std.proofs.lemmas.Bool.{and_parts}
use Rattle.co_base.specs.declared.node.Node.{Node}
use Rattle.co_base.specs.declared.node.Node.TheVariants as node
use Rattle.co_durable.proofs.ReadOnce.{records_once}
use Rattle.co_durable.specs.Nodes.{member_nodes, coord_nodes}
use Rattle.co_durable.specs.Told as files
use Rattle.co_law.proofs.LeftLogs.{left_sound}
use Rattle.co_law.specs.LeftLogs.{records_left}
use Rattle.co_log.specs.NodeFiles.{newest_first}
use Rattle.co_law_node.specs.WholeNodes.{AreWhole}
use Rattle.co_law_runs.proofs.Fitting.{Fit}
use Rattle.std.specs.List.{AllByRecursion}
use Rattle.co_node.specs.Answers.{AreTold}
use Rattle.co_opening.specs.Found.{IsFoundIn}
use Rattle.co_cluster.specs.Left.{HasStable}
use Rattle.co_outside.specs.Home.{File}
use Rattle.co_outside.specs.declared.spot.Spot.{Spot}
use Rattle.co_plain.specs.Federation.{Federation}
use Rattle.co_plain.specs.Invariants.{Stable}
use Rattle.co_plain.specs.Opening.{Found}
use Rattle.co_plain.specs.Premises.{AreOwn}
use Rattle.co_plain.specs.Runs.{run, lines}
use Rattle.co_plain.specs.SoundLogs.{AreSound}
use Rattle.co_plain.specs.declared.happening.Happening.{Happening}
use Rattle.co_plain.specs.declared.happening.Happening.TheVariants as happening
use Rattle.co_record.specs.declared.record.Record.{Record}
use Rattle.co_top.proofs.Laws.{all_own, fit_after, whole_after}
use Rattle.co_top.proofs.Left.{own_more, split_told, told_at}
use Rattle.co_top.specs.Ran.{Ran, start_of, IsSoundlyFound, AreLeftAfter, AreLeftBy, AreLeftByFault, IsUpToFault}

as_told : (file : Spot → Option File) (n : Node) → AreTold file n → files.IsTold file n
as_told file n t = (t.a, t.b, t.is_a, t.is_b)

-- what was found of a node is what it was left with
found_left : (file : Spot → Option File) (owner : Node) (found : Found) (records : List Record) → AreTold file owner → IsFoundIn file owner found → HasStable file owner records → found.records ≡ records
found_left file owner found records told is left =
    let has = left told in
    is.records ∙ ap newest_first (records_once file owner is.items has.0 (as_told file owner told) (is.part, is.current) has.1) ∙ has.2

-- a number is within a bound, or not
pub within : (n most : ℕ) → ((nat_le 1 n && nat_le n most) ≡ true) ⊎ ((nat_le 1 n && nat_le n most) ≡ false)
within n most = by (nat_le 1 n && nat_le n most)
  where
    by : (b : Bool) → (b ≡ true) ⊎ (b ≡ false)
    by true = inl refl
    by false = inr refl

-- so of all nodes of a sort: of others nothing stands in a log
all_left : (most : ℕ) (found : ℕ → Found) (logs : ℕ → List Record) → ((n : ℕ) → (nat_le 1 n && nat_le n most) ≡ false → (found n).records ≡ []) → ((n : ℕ) → 1 ≤ n → n ≤ most → (found n).records ≡ logs n) →
    (n : ℕ) → records_left most logs n ≡ (found n).records
all_left most found logs none some n = by (within n most)
  where
    by : ((nat_le 1 n && nat_le n most) ≡ true) ⊎ ((nat_le 1 n && nat_le n most) ≡ false) → records_left most logs n ≡ (found n).records
    by (inl e) = let parts = and_parts (nat_le 1 n) (nat_le n most) e in ap (λ b. if b then logs n else []) e ∙ sym (some n (leb-true 1 n parts.0) (leb-true n most parts.1))
    by (inr e) = ap (λ b. if b then logs n else []) e ∙ sym (none n e)

module _ {resume : Bool} {input more : List ℕ} {old new : Spot → Option File} (r : Ran resume input old) (next : Ran true more new) (sound : IsSoundlyFound r) (kinds : length next.head.kinds ≡ length r.head.kinds) (coords : next.head.coords ≡ r.head.coords)
    (told : files.AreTold new (length r.head.kinds) r.head.coords) where
  found_after : (hs : List Happening) → AreOwn (length r.head.kinds) r.head.coords hs → AreLeftAfter r hs new → IsSoundlyFound next
  found_after hs own after = inr (subst (λ (ml : ℕ → List Record). AreSound ml (λ c. (next.found_coord c).records)) (λ i m. members m i) (subst (λ (cl : ℕ → List Record). AreSound (λ m. records_left n ml m) cl) (λ i c. coordinators c i) kept))
    where
      s : Federation
      s = run hs (start_of r)

      n : ℕ
      n = length r.head.kinds

      ml : ℕ → List Record
      ml m = (s.member m).log.stable

      cl : ℕ → List Record
      cl c = (s.coord c).log.stable

      both : AllByRecursion (files.IsTold new) (member_nodes n) × AllByRecursion (files.IsTold new) (coord_nodes r.head.coords)
      both = split_told new (member_nodes n) (coord_nodes r.head.coords) told

      whole : AreWhole n r.head.coords s
      whole = whole_after r.head r.found_member r.found_coord r.may hs own

      fit : Fit n r.head.coords (start_of r) s
      fit = fit_after r.head r.found_member r.found_coord r.may hs own

      kept : AreSound (λ m. records_left n ml m) (λ c. records_left r.head.coords cl c)
      kept = left_sound n r.head.coords ml cl (after.sound_logs sound) (λ m. (whole.member m).readable Stable) (λ c. (whole.coord c).readable Stable)

      members : (m : ℕ) → records_left n ml m ≡ (next.found_member m).records
      members =
          all_left n next.found_member ml (λ m out. next.may.own.members m (subst (λ k. (nat_le 1 m && nat_le m k) ≡ false) (sym kinds) out))
          (λ m low high.
          found_left new (node.Member m) (next.found_member m) (ml m) (told_at new node.Member n m both.0 (low, high)) (next.found.member m low (omega (arith, high, kinds))) (after.left.member m low (omega (arith, high, ap length fit.kinds))))

      coordinators : (c : ℕ) → records_left r.head.coords cl c ≡ (next.found_coord c).records
      coordinators =
          all_left r.head.coords next.found_coord cl (λ c out. next.may.own.coordinators c (subst (λ k. (nat_le 1 c && nat_le c k) ≡ false) (sym coords) out))
          (λ c low high.
          found_left new (node.Coord c) (next.found_coord c) (cl c) (told_at new node.Coord r.head.coords c both.1 (low, high)) (next.found.coord c low (omega (arith, high, coords))) (after.left.coord c low (omega (arith, high, fit.coordinators))))

  -- what the lines left, or a fault behind them
  pub found_soundly : AreLeftBy r new ⊎ AreLeftByFault r new → IsSoundlyFound next
  found_soundly (inl after) = found_after (lines r.events) (all_own r.head r.events r.valid) after
  found_soundly (inr fault) = found_after fault.happened (own_up_to fault.happened fault.up_to) fault.files
    where
      own_up_to : (hs : List Happening) → IsUpToFault r hs → AreOwn (length r.head.kinds) r.head.coords hs
      own_up_to hs (inl is) = subst (AreOwn (length r.head.kinds) r.head.coords) (sym is) (all_own r.head r.events r.valid)
      own_up_to hs (inr (event, line, rest, read, inl is)) =
          subst (AreOwn (length r.head.kinds) r.head.coords) (sym is) (own_more (length r.head.kinds) r.head.coords (lines r.events) (happening.Line event ∷ []) (all_own r.head r.events r.valid) (all_own r.head (event ∷ []) (line, tt)))
      own_up_to hs (inr (event, line, rest, read, inr is)) =
          subst (AreOwn (length r.head.kinds) r.head.coords) (sym is)
          (own_more (length r.head.kinds) r.head.coords (lines r.events) (happening.Disarm ∷ happening.Line event ∷ []) (all_own r.head r.events r.valid) (tt, all_own r.head (event ∷ []) (line, tt)))

-- The durable records of files that have the stable records of a state are those of the state.
use Rattle.std.proofs.Common.{◌≡◌, ◌⊎◌, inl, inr, ℕ, zero, suc, ◌≤◌, ◌<◌, ◌+◌, ◌-◌, List, [], ◌∷◌, ◌++◌, map, length, get_or, Option, if◌then◌else◌, refl, sym, ap, ◌∙◌, subst, arith}
use Rattle.std.specs.List.{AllByRecursion}
use Rattle.co_base.specs.declared.node.Node.{Node}
use Rattle.co_outside.specs.declared.spot.Spot.{Spot}
use Rattle.co_outside.specs.Home.{File}
use Rattle.co_record.specs.declared.record.Record.{Record}
use Rattle.co_log.specs.NodeFiles.{Items, newest_first, HasRecordsIn}
use Rattle.co_serial.specs.Records.{Records, all_rows, with_changes}
use Rattle.co_serial.specs.SerialRun.{AllRecords}
use Rattle.co_state.specs.declared.engine_state.Vote.{Vote}
use Rattle.co_plain.specs.CoordView.{has_commit_of}
use Rattle.co_plain.specs.DurableRecords.{with_decided}
use Rattle.co_plain.specs.Numbers.{IsAmong}
use Rattle.co_durable.specs.Durable.{log_of}
use Rattle.co_serial.specs.MemberRows.{numbered_rows, member_rows}
use Rattle.co_durable.specs.Nodes.{numbered}
use Rattle.co_durable.specs.Pairs.{EachPair}
use Rattle.co_serial.specs.declared.member_row.MemberRow.{MemberRow}
use Rattle.co_durable.proofs.Pairs.{pairs_push, all_append}
use Rattle.co_top.proofs.Lists.{get_before, get_last, map_more, map_count, count_more, or_last}

-- what is in the files of so many nodes of a sort, whose logs are these
pub record Gathered (file : Spot → Option File) (sort : ℕ → Node) (P : Items → Type 0) (logs : ℕ → List Record) (count : ℕ) : Type 0 where
  pub lists : List Items
  pub read : EachPair (HasRecordsIn file) (numbered sort count) lists
  pub many : length lists ≡ count
  pub each : AllByRecursion P lists
  pub are : (n : ℕ) → IsAmong n count → log_of lists n ≡ logs n

module _ (file : Spot → Option File) (sort : ℕ → Node) (P : Items → Type 0) (logs : ℕ → List Record) where
  one_more : (count : ℕ) → Gathered file sort P logs count → (items : Items) → HasRecordsIn file (sort (suc count)) items → P items → newest_first items ≡ logs (suc count) →
      Gathered file sort P logs (suc count)
  one_more count g items has holds is =
      record {
        lists = g.lists ++ items ∷ [];
        read = pairs_push (HasRecordsIn file) (numbered sort count) g.lists (sort (suc count)) items g.read has;
        many = count_more g.lists items ∙ ap suc g.many;
        each = all_append P g.lists (items ∷ []) g.each (holds, tt);
        are = λ n between. by n between (or_last n count between.1);
      }
    where
      all : List (List Record)
      all = map newest_first g.lists

      so_many : length all ≡ count
      so_many = map_count newest_first g.lists ∙ g.many

      by : (n : ℕ) → IsAmong n (suc count) → (n ≤ count) ⊎ (n ≡ suc count) → log_of (g.lists ++ items ∷ []) n ≡ logs n
      by n between (inl few) =
          ap (λ (ls : List (List Record)). get_or ls (n - 1) []) (map_more newest_first g.lists items)
          ∙ get_before all (newest_first items) [] (n - 1) (subst (λ k. n - 1 < k) (sym so_many) (omega (arith, between.0, few)))
          ∙ g.are n (between.0, few)
      by n between (inr last) =
          ap (λ (ls : List (List Record)). get_or ls (n - 1) []) (map_more newest_first g.lists items)
          ∙ get_last all (newest_first items) [] (n - 1) (omega (arith, last) ∙ sym so_many)
          ∙ is ∙ ap logs (sym last)

  pub gather : (count : ℕ) → ((n : ℕ) → IsAmong n count → (items : Items) × HasRecordsIn file (sort n) items × P items × (newest_first items ≡ logs n)) → Gathered file sort P logs count
  gather zero f = record { lists = []; read = tt; many = refl; each = tt; are = λ n between. absurd (omega (arith, between.0, between.1)) }
  gather (suc count) f =
      let last = f (suc count) (omega arith, omega arith) in
      one_more count (gather count (λ n between. f n (between.0, omega (arith, between.1)))) last.0 last.1 last.2 last.3

-- votes whose coordinators' logs are the same are decided the same
pub same_decided : (logs others : ℕ → List Record) (es : List (ℕ × Vote)) (records : Records) → AllByRecursion (λ e. logs e.1.coord ≡ others e.1.coord) es →
    with_decided logs records es ≡ with_decided others records es
same_decided logs others [] records same = refl
same_decided logs others (e ∷ es) records same =
    ap (λ rs. with_decided logs (if has_commit_of rs e.0 then with_changes records e.1.sets.writes else records) es) same.0
    ∙ same_decided logs others es (if has_commit_of (others e.1.coord) e.0 then with_changes records e.1.sets.writes else records) same.1

-- the rows of members with the same records
pub same_rows : (all others : AllRecords) (member count : ℕ) → ((n : ℕ) → member ≤ n → n < member + count → all n ≡ others n) → numbered_rows all member count ≡ numbered_rows others member count
same_rows all others member zero same = refl
same_rows all others member (suc count) same =
    ap (λ rs. member_rows member (all_rows rs) ++ numbered_rows all (suc member) count) (same member (omega arith) (omega arith))
    ∙ ap (λ (rows : List MemberRow). member_rows member (all_rows (others member)) ++ rows) (same_rows all others (suc member) count (λ n a b. same n (omega (arith, a)) (omega (arith, b))))

-- Whole runs over logs without records.
use Rattle.std.proofs.Common.{◌≡◌, ℕ, ◌+◌, ◌*◌, ◌≤◌, true, List, [], ◌∷◌, ◌++◌, length, None, refl, sym, subst, arith}
use Rattle.std.proofs.Math.Nat.{suc-mul}
use Rattle.std.specs.Ordering.{nat_cmp}
use Rattle.std.specs.FinMap.{entries}
use Rattle.std.specs.List.{AllByRecursion}
use Rattle.co_base.specs.declared.head.Kind.{Kind}
use Rattle.co_base.specs.declared.node.Node.TheVariants as node
use Rattle.co_base.specs.Order.{key_cmp}
use Rattle.co_record.specs.declared.record.Record.{Record}
use Rattle.co_message.specs.declared.event.Event.{Event}
use Rattle.co_message.specs.declared.event.Event.TheVariants as event
use Rattle.co_plain.specs.declared.happening.Happening.{Happening}
use Rattle.co_plain.specs.declared.happening.Happening.TheVariants.{Line, Hand, Disarm}
use Rattle.co_plain.specs.CoordStep.{table_from}
use Rattle.co_plain.specs.CoordView.{recovered_commits}
use Rattle.co_plain.specs.Federation.{Federation}
use Rattle.co_plain.specs.MemberView.{recovered_view, nothing_known}
use Rattle.co_plain.specs.Opening.{Found, made, kind_of, member_with, opened_member, opened_coord, opened}
use Rattle.co_plain.specs.Runs.{run}
use Rattle.co_plain.specs.Step.{step, step_line, disarmed}
use Rattle.co_law_sizes.specs.LogRoom.{event_checkpoints, happening_bytes, happening_checkpoints, room, most_generation, AreWithin}
use Rattle.co_law_sizes.proofs.Weights.{empty_weighs}
use Rattle.co_law_sizes.proofs.Bytes.{row_weight, active_weight, voted_weight}
use Rattle.co_law_sizes.proofs.Records.{generation_bound, older_bytes, older_headers, header_bytes}
use Rattle.co_law_sizes.proofs.LightMembers.{Light, view_weight, number_weight}
use Rattle.co_law_sizes.proofs.LightCoords.{LightCoord, told_table}
use Rattle.co_law_sizes.proofs.Steps.{AreLight, light_step}
use Rattle.co_law_sizes.proofs.ToldSessions.{told_weight}

-- ---- opened

nothing_weight : view_weight nothing_known ≡ 0
nothing_weight = omega (arith, empty_weighs key_cmp row_weight, empty_weighs nat_cmp voted_weight, empty_weighs nat_cmp number_weight)

opened_light : (kinds : List Kind) (m : ℕ) (found : Found) → found.records ≡ [] → Light 0 1 (opened_member kinds m found)
opened_light kinds m found h = by found.records h
  where
    by : (rs : List Record) → rs ≡ [] →
        Light 0 1 (member_with (kind_of kinds m) (record { stable = made (node.Member m) rs; waiting = []; armed = None; spare_closed = found.spare_closed }) (recovered_view rs))
    by [] e =
        record {
          memory = omega (arith, nothing_weight, empty_weighs nat_cmp active_weight);
          told = omega (arith, nothing_weight, empty_weighs nat_cmp active_weight);
          stable = omega (arith, nothing_weight);
          bytes = omega (arith, header_bytes (node.Member m) 1, empty_weighs nat_cmp active_weight);
          headed = omega arith;
        }
    by (r ∷ rs) e = absurd (let z : r ∷ rs ≡ [] = e in cc)

opened_coord_light : (c : ℕ) (found : Found) → found.records ≡ [] → LightCoord 31 1 0 (opened_coord c found)
opened_coord_light c found h = by found.records h
  where
    by : (rs : List Record) → rs ≡ [] →
        LightCoord 31 1 0 (record {
          up = true;
          table = table_from (entries (recovered_commits rs).unended);
          log = record { stable = made (node.Coord c) rs; waiting = []; armed = None; spare_closed = found.spare_closed };
        })
    by [] e =
        let t = told_table [] in
        record { bytes = omega (arith, header_bytes (node.Coord c) 1, t.1); spare = omega (arith, t.0); headed = omega arith }
    by (r ∷ rs) e = absurd (let z : r ∷ rs ≡ [] = e in cc)

-- ---- and run

abbrev spent_by : List Happening → ℕ
spent_by [] = 0
spent_by (h ∷ hs) = 10 + happening_bytes h + spent_by hs

room_is : (hs : List Happening) → room hs ≡ 31 + 3 * spent_by hs
room_is [] = refl
room_is (h ∷ hs) = omega (arith, room_is hs)

light_run : (hs : List Happening) (s : Federation) (n g : ℕ) → AreLight n g s → (m h : ℕ) → m ≡ spent_by hs + n → h + 1 ≡ most_generation hs + g → AreLight m h (run hs s)
light_run [] s n g l m h e f = subst (λ k. AreLight k h s) (omega (arith, e)) (subst (λ k. AreLight n k s) (omega (arith, f)) l)
light_run (x ∷ hs) s n g l m h e f =
    light_run hs (step s x).state (10 + happening_bytes x + n) (happening_checkpoints x + g) (light_step s n g l x) m h (omega (arith, e)) (omega (arith, f))

within : (hs : List Happening) (s : Federation) → AreLight (spent_by hs) (most_generation hs) s → AreWithin (room hs) (most_generation hs) s
within hs s l =
    record {
      member_bytes = λ m. let k = l.members m in omega (arith, k.bytes, older_bytes (s.member m).log.waiting (s.member m).log.stable, room_is hs);
      coord_bytes = λ c. let k = l.coords c in omega (arith, k.bytes, older_bytes (s.coord c).log.waiting (s.coord c).log.stable, room_is hs);
      member_generations = λ m. let k = l.members m in omega (arith, k.headed, older_headers (s.member m).log.waiting (s.member m).log.stable, generation_bound (s.member m).log.stable);
      coord_generations = λ c. let k = l.coords c in omega (arith, k.headed, older_headers (s.coord c).log.waiting (s.coord c).log.stable, generation_bound (s.coord c).log.stable);
    }

module _ (kinds : List Kind) (coords : ℕ) (found_member found_coord : ℕ → Found) (hs : List Happening) where
  ends_light : ((m : ℕ) → (found_member m).records ≡ []) → ((c : ℕ) → (found_coord c).records ≡ []) →
      AreLight (spent_by hs) (most_generation hs) (run hs (opened kinds coords found_member found_coord))
  ends_light members coordinators =
      light_run hs (opened kinds coords found_member found_coord) 0 1
      (record {
        members = λ m. opened_light kinds m (found_member m) (members m);
        coords = λ c. subst (λ z. LightCoord 31 1 z (opened_coord c (found_coord c))) (sym (empty_weighs nat_cmp told_weight)) (opened_coord_light c (found_coord c) (coordinators c));
      })
      (spent_by hs) (most_generation hs) (omega arith) (omega arith)

  pub run_within : ((m : ℕ) → (found_member m).records ≡ []) → ((c : ℕ) → (found_coord c).records ≡ []) →
      AreWithin (room hs) (most_generation hs) (run hs (opened kinds coords found_member found_coord))
  run_within members coordinators = within hs (run hs (opened kinds coords found_member found_coord)) (ends_light members coordinators)

  pub next_within : (e : Event) → ((m : ℕ) → (found_member m).records ≡ []) → ((c : ℕ) → (found_coord c).records ≡ []) →
      AreWithin (room (Disarm ∷ Line e ∷ hs)) (most_generation (Disarm ∷ Line e ∷ hs)) (step_line (disarmed (run hs (opened kinds coords found_member found_coord))) e).state
  next_within e members coordinators =
      let s = run hs (opened kinds coords found_member found_coord) in
      within (Disarm ∷ Line e ∷ hs) (step_line (disarmed s) e).state
      (light_run (Disarm ∷ Line e ∷ []) s (spent_by hs) (most_generation hs) (ends_light members coordinators) (spent_by (Disarm ∷ Line e ∷ hs)) (most_generation (Disarm ∷ Line e ∷ hs))
      (omega arith) (omega arith))

-- ---- sums

pub room_both : (hs more : List Happening) → room (hs ++ more) + 31 ≡ room hs + room more
room_both [] more = omega arith
room_both (h ∷ hs) more = omega (arith, room_both hs more)

pub room_most : (most : ℕ) (hs : List Happening) → AllByRecursion (λ h. happening_bytes h ≤ most) hs → room hs ≤ 31 + length hs * (30 + 3 * most)
room_most most [] a = omega arith
room_most most (h ∷ hs) a = let q = a.0 in omega (arith, q, room_most most hs a.1, suc-mul (length hs) (30 + 3 * most))

one_each : (h : Happening) → happening_checkpoints h ≤ 1
one_each (Line e) = by e
  where
    by : (e : Event) → event_checkpoints e ≤ 1
    by (event.Checkpoint at) = omega arith
    by _ = omega arith
one_each (Hand t m commit) = omega arith
one_each Disarm = omega arith

pub generation_most : (hs : List Happening) → most_generation hs ≤ 1 + length hs
generation_most [] = omega arith
generation_most (h ∷ hs) = omega (arith, one_each h, generation_most hs)

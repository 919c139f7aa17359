-- Decisions that are alike are judged alike: as those of the federation read serially, so do those of the account.
use Rattle.std.proofs.Common.{◌≡◌, ℕ, suc, List, [], ◌∷◌, ◌++◌, length, map, reverse, refl, sym, ap, ◌∙◌, subst, arith}
use Rattle.std.proofs.lemmas.List.{map-append, reverse-append}
use Rattle.co_record.specs.declared.record.Record.{Record}
use Rattle.co_serial.specs.SerialRun.{AllRecords, after, run_whole}
use Rattle.co_plain.specs.Decisions.{sites_of, replies_of}
use Rattle.co_plain.specs.DurableRecords.{durable_records, durable_of, with_decided}
use Rattle.co_plain.specs.MemberView.{recovered_view}
use Rattle.co_state.specs.Table.{no_entries}
use Rattle.co_state.specs.declared.engine_state.Vote.{Vote}
use Rattle.std.specs.FinMap.{entries, len-entries, len-empty}
use Rattle.std.specs.Ordering.{nat_cmp}
use Rattle.co_plain.specs.declared.session.Decided.{Decided}
use Rattle.co_check.specs.declared.client.Committed.{Committed}
use Rattle.co_check.specs.Runs.{sites, replies}
use Rattle.co_check.specs.Serial.{IsSerial, IsSerialFrom, no_records, serial_after, serial_from}
use Rattle.co_check.specs.declared.client.Answered.{Answered}
use Rattle.co_law_check.specs.Told.{AreAlike, AreDecidedAlike}

map_reverse : {A B : Type 0} (f : A → B) (xs : List A) → map f (reverse xs) ≡ reverse (map f xs)
map_reverse f [] = refl
map_reverse f (x ∷ xs) = ap (map f) (reverse-append (x ∷ []) xs) ∙ map-append f (reverse xs) (x ∷ []) ∙ ap (λ ys. ys ++ f x ∷ []) (map_reverse f xs) ∙ sym (reverse-append (f x ∷ []) (map f xs))

same_sites : (c : Committed) (d : Decided) → AreAlike c.told d.told → sites (reverse c.told) ≡ sites_of d.told
same_sites c d h = map_reverse (λ (o : Answered). o.site) c.told ∙ ap reverse h.0

same_replies : (c : Committed) (d : Decided) → AreAlike c.told d.told → replies (reverse c.told) ≡ replies_of d.told
same_replies c d h = map_reverse (λ (o : Answered). o.reply) c.told ∙ ap reverse h.1

all_sites : (cs : List Committed) (ds : List Decided) → AreDecidedAlike cs ds → map (λ (c : Committed). sites (reverse c.told)) cs ≡ map (λ (d : Decided). sites_of d.told) ds
all_sites [] [] h = refl
all_sites (c ∷ cs) (d ∷ ds) h = ap (λ xs. xs ∷ map (λ (c : Committed). sites (reverse c.told)) cs) (same_sites c d h.1) ∙ ap (λ xs. sites_of d.told ∷ xs) (all_sites cs ds h.2)
all_sites [] (d ∷ ds) h = absurd h
all_sites (c ∷ cs) [] h = absurd h

pub as_many : (cs : List Committed) (ds : List Decided) → AreDecidedAlike cs ds → length cs ≡ length ds
as_many [] [] h = refl
as_many (c ∷ cs) (d ∷ ds) h = ap suc (as_many cs ds h.2)
as_many [] (d ∷ ds) h = absurd h
as_many (c ∷ cs) [] h = absurd h

module _ (start : AllRecords) where
  pub same_after_from : (cs : List Committed) (ds : List Decided) → AreDecidedAlike cs ds → serial_from start cs ≡ after start (reverse (map (λ (d : Decided). sites_of d.told) ds))
  same_after_from cs ds h = ap (λ xs. after start (reverse xs)) (all_sites cs ds h)

  -- each reads what it reads when run whole behind the earlier ones
  abbrev pub Reads : List Decided → Type 0
  Reads ds = (later earlier : List Decided) (d : Decided) → ds ≡ later ++ d ∷ earlier → replies_of d.told ≡ run_whole (after start (reverse (map (λ (d : Decided). sites_of d.told) earlier))) (sites_of d.told)

  pub serially_from : (cs : List Committed) (ds : List Decided) → AreDecidedAlike cs ds → Reads ds → IsSerialFrom start cs
  serially_from [] [] h r = tt
  serially_from (c ∷ cs) (d ∷ ds) h r = (
    same_replies c d h.1 ∙ r [] ds d refl
        ∙ ap (λ all. run_whole all (sites_of d.told)) (sym (same_after_from cs ds h.2)) ∙ ap (run_whole (serial_from start cs)) (sym (same_sites c d h.1)),
    serially_from cs ds h.2 (λ later earlier e is. r (d ∷ later) earlier e (ap (λ xs. d ∷ xs) is)),
  )
  serially_from [] (d ∷ ds) h r = absurd h
  serially_from (c ∷ cs) [] h r = absurd h

module _ (start : AllRecords) (is_start : start ≡ no_records) (cs : List Committed) (ds : List Decided) (h : AreDecidedAlike cs ds) where
  pub same_after : serial_after cs ≡ after start (reverse (map (λ (d : Decided). sites_of d.told) ds))
  same_after = ap (λ s. serial_from s cs) (sym is_start) ∙ same_after_from start cs ds h

  pub serially : Reads start ds → IsSerial cs
  serially r = subst (λ s. IsSerialFrom s cs) is_start (serially_from start cs ds h r)

pub nothing_in : {A : Type 0} (xs : List A) → length xs ≡ 0 → xs ≡ []
nothing_in [] none = refl
nothing_in (x ∷ xs) none = absurd (omega (arith, none))

no_votes : entries (no_entries {X = Vote}) ≡ []
no_votes = nothing_in (entries (no_entries {X = Vote})) (sym (len-entries (no_entries {X = Vote})) ∙ len-empty nat_cmp Vote)

-- a member whose log has no records has none
pub no_start : (fm fc : ℕ → List Record) (m : ℕ) → fm m ≡ [] → durable_records fm fc m ≡ no_records m
no_start fm fc m none = ap (λ records. durable_of fc (recovered_view records)) none ∙ ap (λ es. with_decided fc (no_records m) es) no_votes

-- logs without records give none
pub starts_empty : (fm fc : ℕ → List Record) → ((m : ℕ) → fm m ≡ []) → ((c : ℕ) → fc c ≡ []) → durable_records fm fc ≡ no_records
starts_empty fm fc em ec = ap (λ logs. durable_records logs fc) (λ i m. em m i) ∙ ap (durable_records (λ m. [])) (λ i c. ec c i) ∙ ap (λ es m. with_decided (λ c. []) (no_records m) es) no_votes

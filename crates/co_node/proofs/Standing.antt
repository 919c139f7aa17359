-- After each log write the log of a node stands for what the write leaves of the plain log.
use Rattle.std.proofs.Common.{◌≡◌, ℕ, ◌+◌, ◌<◌, Bool, true, false, List, [], ◌∷◌, ◌++◌, sym, ap, subst, ◌∙◌, arith}
use Rattle.std.specs.Prelude.{reverse, length, slice_get, ◌≤◌, Option, Some, None, IfSome, if◌then◌else◌}
use Rattle.std.proofs.lemmas.List.{append_assoc, reverse-append, reverse-reverse}
use Rattle.co_base.specs.declared.node.Node.{Node}
use Rattle.co_disk.specs.DiskView.{DiskView}
use Rattle.co_record.specs.declared.record.Record.{Record}
use Rattle.co_record.specs.declared.record.Record.TheVariants.{Header}
use Rattle.co_frame.specs.Gate.{begins_closed}
use Rattle.co_record.specs.Spelling.{IsSpelledIn}
use Rattle.co_record.specs.Stored.{HoldRecords}
use Rattle.co_log.specs.Current.{BeginsWith}
use Rattle.co_log.specs.Forcing.{IsWritten}
use Rattle.co_log.specs.LogFile.{records_of, next_items, placed_from}
use Rattle.co_log.specs.LogView.{LogView}
use Rattle.co_log.specs.NodeFiles.{Items, newest_first}
use Rattle.co_log.specs.Spare.{IsClosed, IsFilledIf, filling}
use Rattle.co_base.specs.declared.leaves.Stop.{Stop}
use Rattle.co_log.proofs.Ordered.{ordered_same, written_ordered, closed_ordered, filled_ordered, unfilled_ordered, next_records, filled_records}
use Rattle.co_plain.specs.declared.log_state.LogState.{LogState}
use Rattle.co_plain.specs.LogWrite.{with_batch, with_filled_spare, crashed_log, generation_of, generation_in}
use Rattle.co_plain.specs.Numbers.{next_generation}
use Rattle.co_node.specs.NodeLog.{RepresentsLog}
use Rattle.co_node.specs.Writes.{filled_with}

-- no stop is armed, so none out of bounds
pub none_armed : {o : Option Stop} → o ≡ None → IfSome o (λ stop. stop.call ≤ 4)
none_armed is = subst (λ (o : Option Stop). IfSome o (λ stop. stop.call ≤ 4)) (sym is) tt

-- the forced records are the newest, then come the waiting ones, then those before
onto : (old waiting forced : List Record) → reverse (old ++ (waiting ++ forced)) ≡ reverse forced ++ (reverse waiting ++ reverse old)
onto old waiting forced =
    reverse-append old (waiting ++ forced) ∙ ap (λ (xs : List Record). xs ++ reverse old) (reverse-append waiting forced) ∙ append_assoc (reverse forced) (reverse waiting) (reverse old)

-- the records, newest first, after a write that added the waiting ones and these behind them, the oldest first
pub next_newest : (owner : Node) (log : LogView) (l : LogState) (forced : List Record) (s : RepresentsLog owner log l) → newest_first (next_items true log.gate s.items (log.waiting ++ forced)) ≡ (with_batch l (reverse forced)).stable
next_newest owner log l forced s =
    let all = ap reverse (next_records true log.gate s.items (log.waiting ++ forced)) ∙ onto (records_of s.items) log.waiting forced in
    all ∙ ap (λ (xs : List Record). reverse forced ++ (xs ++ newest_first s.items)) (sym s.waiting) ∙ ap (λ (xs : List Record). reverse forced ++ (l.waiting ++ xs)) (sym s.stable)

-- a log write that added the waiting records and these behind them, or did not and took the waiting ones away
pub written_stands : (stable : Bool) (owner : Node) (log after : LogView) (l : LogState) (forced : List Record) (s : RepresentsLog owner log l)
    → IsWritten stable log s.items (log.waiting ++ forced) after → RepresentsLog owner after (crashed_log (if stable then with_batch l (reverse forced) else l))
written_stands true owner log after l forced s w =
    let more = log.waiting ++ forced in
    record {
      owned = w.node ∙ s.owned;
      latest = w.version ∙ s.latest;
      items = next_items true log.gate s.items more;
      ordered = written_ordered true log after s.items more s.ordered w;
      stable = sym (next_newest owner log l forced s);
      waiting = ap reverse (sym w.waiting);
      armed = sym w.disarmed;
      bound = none_armed w.disarmed;
      spare = s.spare ∙ ap (λ (d : DiskView). begins_closed d.state.stable) (sym w.spare);
    }
written_stands false owner log after l forced s w =
    record {
      owned = w.node ∙ s.owned;
      latest = w.version ∙ s.latest;
      items = s.items;
      ordered = written_ordered false log after s.items (log.waiting ++ forced) s.ordered w;
      stable = s.stable;
      waiting = ap reverse (sym w.waiting);
      armed = sym w.disarmed;
      bound = none_armed w.disarmed;
      spare = s.spare ∙ ap (λ (d : DiskView). begins_closed d.state.stable) (sym w.spare);
    }

-- a spare that was closed, or was not: with the waiting records kept, or lost
pub closed_stands : (closed : Bool) (owner : Node) (log after : LogView) (l : LogState) (kept : List Record) (s : RepresentsLog owner log l)
    → IsClosed closed log after → after.waiting ≡ reverse kept → RepresentsLog owner after (record { stable = l.stable; waiting = kept; armed = None; spare_closed = closed })
closed_stands closed owner log after l kept s c waiting =
    record {
      owned = c.node ∙ s.owned;
      latest = c.version ∙ s.latest;
      items = s.items;
      ordered = closed_ordered closed log after s.items s.ordered c;
      stable = s.stable;
      waiting = sym (reverse-reverse kept) ∙ ap reverse (sym waiting);
      armed = sym c.disarmed;
      bound = none_armed c.disarmed;
      spare = sym c.closed_is;
    }

-- ---- generations

-- the first of the records that a log text holds is one that is spelled
first_spelled : (version gate : ℕ) (batches : List (List ℕ)) (x : ℕ × Record) (items : Items) → HoldRecords version gate batches (x ∷ items) → IsSpelledIn version x.1
first_spelled version gate [] x items none = absurd cc
first_spelled version gate (batch ∷ batches) x items ([], back, both, here, behind) = first_spelled version (gate + 5 + length batch) batches x items (subst (HoldRecords version (gate + 5 + length batch) batches) (sym both) behind)
first_spelled version gate (batch ∷ batches) x items (y ∷ front, back, both, here, behind) = subst (λ (z : ℕ × Record). IsSpelledIn version z.1) (sym (same both)) here.1
  where
    same : {xs ys : Items} {a b : ℕ × Record} → a ∷ xs ≡ b ∷ ys → a ≡ b
    same e = cc

first_generation : (owner : Node) (generation : ℕ) (items : Items) → BeginsWith owner generation items → generation_in (slice_get (records_of items) 0) ≡ generation
first_generation owner generation [] begins = absurd begins
first_generation owner generation (x ∷ items) begins = ap (λ (y : ℕ × Record). generation_in (Some y.1)) begins

-- the generation that the records tell is that of the log
pub generation_is : (owner : Node) (log : LogView) (l : LogState) → RepresentsLog owner log l → generation_of l.stable ≡ log.generation
generation_is owner log l s =
    let back = ap (λ (xs : List Record). generation_in (slice_get (reverse xs) 0)) s.stable in
    let whole = ap (λ (xs : List Record). generation_in (slice_get xs 0)) (reverse-reverse (records_of s.items)) in
    back ∙ whole ∙ first_generation log.node log.generation s.items s.ordered.header

pub generation_within : (owner : Node) (version generation gate : ℕ) (batches : List (List ℕ)) (items : Items) → BeginsWith owner generation items → HoldRecords version gate batches items → generation < 4294967296
generation_within owner version generation gate batches [] begins holds = absurd begins
generation_within owner version generation gate batches (x ∷ items) begins holds = (subst (λ (y : ℕ × Record). IsSpelledIn version y.1) begins (first_spelled version gate batches x items holds)).1

-- the next generation does not stand still where there is one
pub next_is : (owner : Node) (log : LogView) (l : LogState) → RepresentsLog owner log l → (log.generation ≡ 4294967295 → ⊥) → next_generation (generation_of l.stable) ≡ log.generation + 1
next_is owner log l s below =
    let bound = generation_within log.node log.version log.generation 0 s.ordered.live.ends.batches s.items s.ordered.header s.ordered.live.ends.holds in
    ap next_generation (generation_is owner log l s) ∙ omega (arith, bound, below)

-- ---- filling

-- the records of a filled spare, newest first
pub filled_newest : (owner : Node) (log : LogView) (l : LogState) (records : List Record) (s : RepresentsLog owner log l) → next_generation (generation_of l.stable) ≡ log.generation + 1
    → newest_first (placed_from 5 (filling log records)) ≡ filled_with owner l (reverse records)
filled_newest owner log l records s next =
    let placed = ap reverse (filled_records true log s.items records) in
    let header : reverse (filling log records) ≡ reverse records ++ Header log.node (log.generation + 1) ∷ [] = reverse-append (Header log.node (log.generation + 1) ∷ []) records in
    let owned = ap (λ (n : Node). reverse records ++ Header n (log.generation + 1) ∷ []) s.owned in
    let named = ap (λ (g : ℕ). reverse records ++ Header owner g ∷ []) (sym next) in
    placed ∙ header ∙ owned ∙ named

-- a spare that was filled, or was not
pub filled_stands : (stable : Bool) (owner : Node) (log after : LogView) (l : LogState) (records : List Record) (s : RepresentsLog owner log l) → next_generation (generation_of l.stable) ≡ log.generation + 1
    → IsFilledIf stable log after records → l.spare_closed ≡ true → RepresentsLog owner after (crashed_log (if stable then with_filled_spare l (filled_with owner l (reverse records)) else l))
filled_stands true owner log after l records s next f closed =
    record {
      owned = f.node ∙ s.owned;
      latest = f.version;
      items = placed_from 5 (filling log records);
      ordered = filled_ordered log after s.items records s.ordered f;
      stable = sym (filled_newest owner log l records s next);
      waiting = ap reverse (sym f.waiting);
      armed = sym f.disarmed;
      bound = none_armed f.disarmed;
      spare = sym f.opens;
    }
filled_stands false owner log after l records s next u closed =
    record {
      owned = u.node ∙ s.owned;
      latest = u.version ∙ s.latest;
      items = s.items;
      ordered = unfilled_ordered log after s.items s.ordered u;
      stable = s.stable;
      waiting = ap reverse (sym u.waiting);
      armed = sym u.disarmed;
      bound = none_armed u.disarmed;
      spare = closed ∙ sym u.closed;
    }

-- ---- no log write

-- a log that keeps its files, with what waits and the armed stop changed as the plain log has them changed
pub same_stands : (owner : Node) (log after : LogView) (l m : LogState) → RepresentsLog owner log l → after.node ≡ log.node → after.version ≡ log.version → after.current ≡ log.current → after.spare ≡ log.spare → after.gate ≡ log.gate → after.generation ≡ log.generation
    → m.stable ≡ l.stable → m.spare_closed ≡ l.spare_closed → m.waiting ≡ reverse after.waiting → m.armed ≡ after.stop
    → IfSome after.stop (λ stop. stop.call ≤ 4) → RepresentsLog owner after m
same_stands owner log after l m s node version current spare gate generation stable closed waiting armed bound =
    record {
      owned = node ∙ s.owned;
      latest = version ∙ s.latest;
      items = s.items;
      ordered = ordered_same log after s.items node version current spare gate generation s.ordered;
      stable = stable ∙ s.stable;
      waiting = waiting;
      armed = armed;
      bound = bound;
      spare = closed ∙ s.spare ∙ ap (λ (d : DiskView). begins_closed d.state.stable) (sym spare);
    }

-- a record more waits
pub waiting_more : (waiting : List Record) (item : Record) → reverse (waiting ++ item ∷ []) ≡ item ∷ reverse waiting
waiting_more waiting item = reverse-append waiting (item ∷ [])

-- An opened log is that of the current file of its node.
use Rattle.std.proofs.Common.{◌≡◌, inl, inr, ℕ, List, [], ◌∷◌, refl, sym, ap, subst, ◌∙◌, Option}
use Rattle.std.specs.List.{AllByRecursion}
use Rattle.co_base.specs.declared.node.Node.{Node}
use Rattle.co_outside.specs.declared.spot.Spot.{Spot}
use Rattle.co_outside.specs.Home.{File}
use Rattle.co_disk.specs.DiskView.{DiskView}
use Rattle.co_frame.specs.LogText.{IsLogText}
use Rattle.co_record.specs.declared.record.Record.TheVariants.{Header}
use Rattle.co_record.specs.Format.{newest}
use Rattle.co_record.specs.Stored.{HasRecords}
use Rattle.co_log.specs.Attaching.{built, IsCurrent}
use Rattle.co_log.specs.Current.{IsCurrentOf}
use Rattle.co_log.specs.LogView.{spot_of, LogView}
use Rattle.co_log.proofs.Versions.{has_records}
use Rattle.co_log.proofs.Unmade.{read_stable}
use Rattle.co_durable.specs.Durable.{IsLogIn, Stands, Falls}
use Rattle.co_log.specs.NodeFiles.{HasCurrent, IsCurrentIn}
use Rattle.co_durable.specs.declared.fault.WorldFault.TheVariants.{Bad}
use Rattle.co_durable.specs.Pairs.{EachPair}
use Rattle.co_durable.specs.Reading.{IsLogOf, HasLog}
use Rattle.co_durable.specs.Recovering.{HasItems, IsReadable, LogStands, LogFalls}
use Rattle.co_log.specs.NodeFiles.{Items}
use Rattle.co_durable.proofs.Pairs.{right_all}

-- the current file of the node, as the log has it
pub record IsOpen (file : Spot → Option File) (node : Node) (log : LogView) : Type 0 where
  pub part : ℕ
  pub items : Items
  pub current : IsCurrentIn file node part items
  pub has : HasItems log items
  pub spot : log.current.spot ≡ spot_of node part

module _ (file : Spot → Option File) (node : Node) (log : LogView) (is : IsLogOf file node log) where
  in_file : (part : ℕ) (items : Items) → HasCurrent node is.a.state.stable is.b.state.stable part items → IsCurrentIn file node part items
  in_file part items current = record {
    a = is.a.state.stable;
    b = is.b.state.stable;
    told_a = is.file_a.told;
    told_b = is.file_b.told;
    within_a = is.within_a;
    within_b = is.within_b;
    current = current;
  }

  has_items : (version : ℕ) (disk spare : DiskView) (gate generation : ℕ) (items : Items) → disk.state.pending ≡ [] → log ≡ built node version disk spare gate generation → HasRecords disk.state.stable items → HasItems log items
  has_items version disk spare gate generation items still built_is has =
      subst (λ (l : LogView). HasItems l items) (sym built_is) (subst (λ (bytes : List ℕ). HasRecords bytes items) (sym (read_stable disk.state still)) has)

  fresh_open : (log ≡ built node newest is.a is.b 0 0) × IsLogText is.a.state.stable [] × IsLogText is.b.state.stable [] → IsOpen file node log
  fresh_open f = record {
    part = 0;
    items = [];
    current = in_file 0 [] (inl (refl, refl, f.1, f.2));
    has = has_items newest is.a is.b 0 0 [] is.file_a.still f.0 ([], f.1, refl);
    spot = ap (λ (l : LogView). l.current.spot) f.0 ∙ is.file_a.at;
  }

  current_a : IsCurrent node is.a is.b log → IsOpen file node log
  current_a c =
      let items : Items = (5, Header node c.generation) ∷ c.file.0 in
      let current : IsCurrentOf node c.version c.generation is.a.state.stable is.b.state.stable items = record { gate = c.gate; known = c.file.1; ends = c.file.2; header = refl; older = c.older } in
      record {
        part = 0;
        items = items;
        current = in_file 0 items (inr (inl (refl, (c.version, c.generation, current))));
        has = has_items c.version is.a is.b c.gate c.generation items is.file_a.still c.is (has_records c.version c.file.1 node c.generation is.a.state.stable c.gate c.file.0 c.file.2);
        spot = ap (λ (l : LogView). l.current.spot) c.is ∙ is.file_a.at;
      }

  current_b : IsCurrent node is.b is.a log → IsOpen file node log
  current_b c =
      let items : Items = (5, Header node c.generation) ∷ c.file.0 in
      let current : IsCurrentOf node c.version c.generation is.b.state.stable is.a.state.stable items = record { gate = c.gate; known = c.file.1; ends = c.file.2; header = refl; older = c.older } in
      record {
        part = 1;
        items = items;
        current = in_file 1 items (inr (inr (refl, (c.version, c.generation, current))));
        has = has_items c.version is.b is.a c.gate c.generation items is.file_b.still c.is (has_records c.version c.file.1 node c.generation is.b.state.stable c.gate c.file.0 c.file.2);
        spot = ap (λ (l : LogView). l.current.spot) c.is ∙ is.file_b.at;
      }

  pub opened : IsOpen file node log
  opened = elim is.attached as (λ a. IsOpen file node log) [ inl f ↦ fresh_open f | inr c ↦ elim c as (λ d. IsOpen file node log) [ inl x ↦ current_a x | inr y ↦ current_b y ] ]

pub log_in : (file : Spot → Option File) (node : Node) → HasLog file node → IsLogIn file node
log_in file node has = let o = opened file node has.0 has.1 in (o.items, (o.part, o.current))

pub readable : (file : Spot → Option File) (nodes : List Node) (logs : List LogView) → EachPair (IsLogOf file) nodes logs → AllByRecursion IsReadable logs
readable file nodes logs pairs = right_all (IsLogOf file) IsReadable (λ node log is. let o = opened file node log is in (o.items, o.has)) nodes logs pairs

pub stands : (file : Spot → Option File) (refuses : Items → Option ℕ) (node : Node) (log : LogView) → IsLogOf file node log → LogStands refuses log → Stands file refuses node
stands file refuses node log is all = let o = opened file node log is in (o.items, (o.part, o.current), all o.items o.has)

pub falls : (file : Spot → Option File) (refuses : Items → Option ℕ) (spot : Spot) (at : ℕ) (node : Node) (log : LogView) → IsLogOf file node log → LogFalls refuses (Bad spot at) log → Falls file refuses spot at node
falls file refuses spot at node log is f =
    let o = opened file node log is in
    record { part = o.part; items = o.items; current = o.current; where_is = f.0 ∙ o.spot; refused = f.1 o.items o.has }

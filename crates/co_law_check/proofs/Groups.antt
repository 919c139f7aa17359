-- How the group of an event is read: its line, its marks, its messages and its reply.
use Rattle.std.proofs.Common.{◌≡◌, ℕ, Bool, true, false, ◌==◌, ◌+◌, List, [], ◌∷◌, ◌++◌, map, Option, None, Some, if◌then◌else◌, refl, sym, ap, ◌∙◌, subst, append_assoc}
use Rattle.std.proofs.lemmas.List.{map-append}
use Rattle.co_base.specs.declared.head.Head.{Head}
use Rattle.co_base.specs.declared.mark.Mark.{Mark}
use Rattle.co_message.specs.declared.answer.Answer.{Answer}
use Rattle.co_message.specs.declared.event.Event.{Event}
use Rattle.co_message.specs.declared.item.Item.{Item}
use Rattle.co_message.specs.declared.item.ItemKind.{ItemKind}
use Rattle.co_message.specs.declared.item.ItemKind.TheVariants as item
use Rattle.co_message.specs.declared.message.Message.{Message}
use Rattle.co_state.specs.Table.{Table, look}
use Rattle.co_plain.specs.Federation.{items_of, decided_by_kind, decide_all}
use Rattle.co_plain.specs.Promises.{AreDecidedOnce}
use Rattle.co_plain.specs.Runs.{numbered}
use Rattle.co_plain.specs.declared.session.Decided.{Decided}
use Rattle.co_plain.specs.declared.session.Session.{Session}
use Rattle.co_check.specs.Account.{Account, marked, replied}
use Rattle.co_check.specs.Shape.{Read, read_from, at_place, fits}
use Rattle.co_check.specs.declared.place.Place.TheVariants.{InGroup, Behind}
use Rattle.co_law_check.specs.Told.{Tells}
use Rattle.co_law_check.proofs.Marks.{own, once_before, one_mark}

-- items behind items of the same line
pub numbered_more : (n : ℕ) (xs ys : List ItemKind) (rest : List Item) → numbered n (xs ++ ys) ++ rest ≡ numbered n xs ++ (numbered n ys ++ rest)
numbered_more n xs ys rest = ap (λ zs. zs ++ rest) (map-append (λ what. record { number = n; what = what }) xs ys) ∙ append_assoc (numbered n xs) (numbered n ys) rest

-- where the number is right, what the line tells counts
pub counts : (n : ℕ) (o : Option Read) (rest : List Item) → read_from (if n == n then o else None) rest ≡ read_from o rest
counts n o rest = ap (λ b. read_from (if b then o else None) rest) (own n)

module _ (head : Head) (n : ℕ) (e : Event) where
  abbrev pub within : Bool → Account → Option Read
  within sending a = Some (record { place = InGroup head n e sending; account = a })

  -- marks that are read leave an account that tells of what they decide
  pub record ReadMarks (sessions : Table Session) (marks : List Mark) (decided : List Decided) (a : Account) : Type 0 where
    pub account : Account
    pub tells : Tells account sessions (decide_all sessions decided marks)
    pub reads : (rest : List Item) → read_from (within false a) (numbered n (map item.Log marks) ++ rest) ≡ read_from (within false account) rest

  pub read_marks : (sessions : Table Session) (marks : List Mark) (decided : List Decided) (a : Account) → Tells a sessions decided → AreDecidedOnce (decide_all sessions decided marks) → ReadMarks sessions marks decided a
  read_marks sessions [] decided a m once = record { account = a; tells = m; reads = λ rest. refl }
  read_marks sessions (mark ∷ marks) decided a m once =
      let after = decided_by_kind mark.kind (look sessions mark.number) mark.node mark.number decided in
      let one = one_mark sessions decided a m mark (once_before sessions marks after once) in
      let more = read_marks sessions marks after one.account one.tells once in
      record {
        account = more.account;
        tells = more.tells;
        reads = λ rest.
            counts n (at_place (InGroup head n e false) (marked a mark)) (numbered n (map item.Log marks) ++ rest)
            ∙ ap (λ o. read_from (at_place (InGroup head n e false) o) (numbered n (map item.Log marks) ++ rest)) one.is ∙ more.reads rest;
      }

  -- then the messages
  sent_more : (a : Account) (messages : List Message) (rest : List Item) → read_from (within true a) (numbered n (map item.Sent messages) ++ rest) ≡ read_from (within true a) rest
  sent_more a [] rest = refl
  sent_more a (note ∷ messages) rest = counts n (within true a) (numbered n (map item.Sent messages) ++ rest) ∙ sent_more a messages rest

  -- then the reply
  pub answered : (a : Account) (messages : List Message) (said : Answer) (rest : List Item) →
      read_from (within false a) (numbered n (map item.Sent messages ++ item.Answered said ∷ []) ++ rest) ≡ read_from (at_place (Behind head n) (replied a n e said)) rest
  answered a [] said rest = counts n (at_place (Behind head n) (replied a n e said)) rest
  answered a (note ∷ messages) said rest =
      ap (read_from (within false a)) (numbered_more n (item.Sent note ∷ map item.Sent messages) (item.Answered said ∷ []) rest)
      ∙ counts n (within true a) (numbered n (map item.Sent messages) ++ (numbered n (item.Answered said ∷ []) ++ rest))
      ∙ sent_more a messages (numbered n (item.Answered said ∷ []) ++ rest) ∙ counts n (at_place (Behind head n) (replied a n e said)) rest

-- the whole group
pub read_group : (head : Head) (k n : ℕ) (e : Event) (sessions : Table Session) (marks : List Mark) (messages : List Message) (said : Answer) (decided : List Decided) (a : Account) →
    n ≡ k + 1 → fits head e ≡ true → (r : ReadMarks head n e sessions marks decided a) (rest : List Item) →
    read_from (Some (record { place = Behind head k; account = a })) (numbered n (item.Event e ∷ items_of marks messages said) ++ rest) ≡ read_from (at_place (Behind head n) (replied r.account n e said)) rest
read_group head k n e sessions marks messages said decided a is fit r rest =
    subst
    (λ j. read_from (Some (record { place = Behind head k; account = a })) (numbered n (item.Event e ∷ items_of marks messages said) ++ rest) ≡ read_from (if n == j then (if fits head e then at_place (InGroup head j e false) (Some a) else None) else None) (numbered n (items_of marks messages said) ++ rest))
    (sym is) refl
    ∙ counts n (if fits head e then within head n e false a else None) (numbered n (items_of marks messages said) ++ rest)
    ∙ ap (λ b. read_from (if b then within head n e false a else None) (numbered n (items_of marks messages said) ++ rest)) fit
    ∙ ap (read_from (within head n e false a)) (numbered_more n (map item.Log marks) (map item.Sent messages ++ item.Answered said ∷ []) rest)
    ∙ r.reads (numbered n (map item.Sent messages ++ item.Answered said ∷ []) ++ rest) ∙ answered head n e r.account messages said rest

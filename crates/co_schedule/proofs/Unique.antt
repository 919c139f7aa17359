-- No two events have the same words.
use Rattle.std.proofs.Common.{◌≡◌, ℕ, ◌≤◌, ◌<◌, ◌^◌, Bool, true, false, List, [], ◌∷◌, get_or, drop, Option, Some, None, refl, ap, ◌∙◌, arith, ◌==◌}
use Rattle.std.specs.Prelude.{codes, if◌then◌else◌}
use Rattle.std.specs.Str.{bytes_eq}
use Rattle.std.specs.Str.Parse.{digits_value}
use Rattle.hex.proofs.HexLemmas.{decode_of-encode_lower}
use Rattle.co_base.specs.declared.node.Node.{Node}
use Rattle.co_base.specs.declared.node.Node.TheVariants.{Member, Coord}
use Rattle.co_base.specs.declared.leaves.Leaves.{Leaves}
use Rattle.co_base.specs.declared.leaves.Leaves.TheVariants as leaves
use Rattle.co_message.specs.declared.message.Message.{Message}
use Rattle.co_message.specs.declared.message.Message.TheVariants as message
use Rattle.co_message.specs.declared.event.Event.{Event}
use Rattle.co_message.specs.declared.event.Event.TheVariants as event
use Rattle.co_schedule.specs.Words.{Word}
use Rattle.co_schedule.specs.Spelling.{node_word, leaves_word, vote_word, decision_word, message_words, event_words}
use Rattle.co_schedule.specs.declared.form.Form.{Form}
use Rattle.co_schedule.specs.declared.form.Form.TheVariants as form
use Rattle.co_schedule.specs.declared.form.MessageForm.{MessageForm}
use Rattle.co_schedule.specs.declared.form.MessageForm.TheVariants as kind
use Rattle.co_schedule.specs.Grammar.{form_named, message_named}
use Rattle.co_schedule.specs.View.{IsWithin, IsNode, IsLeaves, IsMessageFor, IsEventFor, decoded}
use Rattle.co_schedule.proofs.Numbers.{value_of-decimal}

-- the number of digits, and of digits behind a letter
abbrev pub amount : Word → ℕ
amount word = digits_value 10 word

abbrev pub named : Word → ℕ
named word = digits_value 10 (drop 1 word)

-- the node of its name
abbrev pub node_from : Word → Node
node_from word = if get_or word 0 0 == 109 then Member (named word) else Coord (named word)

abbrev leaves_from : Word → Leaves
leaves_from word = if bytes_eq word (codes "old") then leaves.Old else (if bytes_eq word (codes "new") then leaves.New else leaves.Filled (decoded (drop 1 word)))

abbrev at : List Word → ℕ → Word
at words k = get_or words k []

abbrev message_from : Option MessageForm → List Word → Option Message
message_from None words = None
message_from (Some kind.Prepare) words = Some (message.Prepare (amount (at words 0)) (named (at words 1)) (named (at words 2)) (amount (at words 3)))
message_from (Some kind.Vote) words = Some (message.Vote (amount (at words 0)) (named (at words 1)) (named (at words 2)) (bytes_eq (at words 3) (codes "yes")))
message_from (Some kind.Decide) words = Some (message.Decide (amount (at words 0)) (named (at words 1)) (named (at words 2)) (bytes_eq (at words 3) (codes "commit")))
message_from (Some kind.Ask) words = Some (message.Ask (amount (at words 0)) (named (at words 1)) (named (at words 2)))
message_from (Some kind.Ack) words = Some (message.Ack (amount (at words 0)) (named (at words 1)) (named (at words 2)))

-- the message of its words
abbrev pub message_back : List Word → Option Message
message_back [] = None
message_back (word ∷ words) = message_from (message_named word) words

abbrev delivered : Option Message → Option Event
delivered None = None
delivered (Some message) = Some (event.Deliver message)

abbrev event_from : Option Form → List Word → Option Event
event_from None words = None
event_from (Some form.Begin) words = Some (event.Begin (amount (at words 0)) (named (at words 1)))
event_from (Some form.Local) words = Some (event.Local (amount (at words 0)) (named (at words 1)))
event_from (Some form.Read) words = Some (event.Read (amount (at words 0)) (named (at words 1)) (at words 2))
event_from (Some form.Write) words = Some (event.Write (amount (at words 0)) (named (at words 1)) (at words 2) (at words 3))
event_from (Some form.Erase) words = Some (event.Erase (amount (at words 0)) (named (at words 1)) (at words 2))
event_from (Some form.Scan) words = Some (event.Scan (amount (at words 0)) (named (at words 1)) (record { lo = at words 2; hi = at words 3 }))
event_from (Some form.Commit) words = Some (event.Commit (amount (at words 0)))
event_from (Some form.Abort) words = Some (event.Abort (amount (at words 0)))
event_from (Some form.Deliver) words = delivered (message_back words)
event_from (Some form.Vote) words = Some (event.Vote (amount (at words 0)) (named (at words 1)))
event_from (Some form.Timer) words = Some (event.Timer (amount (at words 0)) (node_from (at words 1)))
event_from (Some form.Ask) words = Some (event.Ask (amount (at words 0)) (named (at words 1)))
event_from (Some form.Resend) words = Some (event.Resend (amount (at words 0)) (named (at words 1)))
event_from (Some form.Crash) words = Some (event.Crash (node_from (at words 0)))
event_from (Some form.Restart) words = Some (event.Restart (node_from (at words 0)))
event_from (Some form.Arm) words = Some (event.Arm (node_from (at words 0)) (amount (at words 1)) (leaves_from (at words 2)))
event_from (Some form.Checkpoint) words = Some (event.Checkpoint (node_from (at words 0)))

-- the event of its words
abbrev pub event_back : List Word → Option Event
event_back [] = None
event_back (word ∷ words) = event_from (form_named word) words

small_within : (most n : ℕ) → IsWithin 1 most n → most ≤ 255 → n < 2 ^ 64
small_within most n it small = omega (arith, it.1)

pub node_same : (m c : ℕ) (n : Node) → m ≤ 255 → c ≤ 255 → IsNode m c n → node_from (node_word n) ≡ n
node_same m c (Member n) p q it = ap Member (value_of-decimal n (small_within m n it p))
node_same m c (Coord n) p q it = ap Coord (value_of-decimal n (small_within c n it q))

leaves_same : (l : Leaves) → IsLeaves l → leaves_from (leaves_word l) ≡ l
leaves_same leaves.Old it = refl
leaves_same leaves.New it = refl
leaves_same (leaves.Filled bytes) it = ap (λ r. leaves.Filled (Rattle.std.specs.Result.result_unwrap_or r [])) (decode_of-encode_lower bytes it)

vote_same : (b : Bool) → bytes_eq (vote_word b) (codes "yes") ≡ b
vote_same true = refl
vote_same false = refl

decision_same : (b : Bool) → bytes_eq (decision_word b) (codes "commit") ≡ b
decision_same true = refl
decision_same false = refl

pub message_back-words : (m c : ℕ) (x : Message) → m ≤ 255 → c ≤ 255 → IsMessageFor m c x → message_back (message_words x) ≡ Some x
message_back-words m c (message.Prepare t k n held) p q it = rw (value_of-decimal t (omega (arith, it.0)), value_of-decimal k (small_within c k it.1 q), value_of-decimal n (small_within m n it.2 p), value_of-decimal held (omega (arith, it.3))) refl
message_back-words m c (message.Vote t n k w) p q it = rw (value_of-decimal t (omega (arith, it.0)), value_of-decimal k (small_within c k it.2 q), value_of-decimal n (small_within m n it.1 p), vote_same w) refl
message_back-words m c (message.Decide t k n commit) p q it = rw (value_of-decimal t (omega (arith, it.0)), value_of-decimal k (small_within c k it.1 q), value_of-decimal n (small_within m n it.2 p), decision_same commit) refl
message_back-words m c (message.Ask t n k) p q it = rw (value_of-decimal t (omega (arith, it.0)), value_of-decimal k (small_within c k it.2 q), value_of-decimal n (small_within m n it.1 p)) refl
message_back-words m c (message.Ack t n k) p q it = rw (value_of-decimal t (omega (arith, it.0)), value_of-decimal k (small_within c k it.2 q), value_of-decimal n (small_within m n it.1 p)) refl

pub event_back-words : (m c : ℕ) (e : Event) → m ≤ 255 → c ≤ 255 → IsEventFor m c e → event_back (event_words e) ≡ Some e
event_back-words m c (event.Begin t k) p q it = rw (value_of-decimal t (omega (arith, it.0)), value_of-decimal k (small_within c k it.1 q)) refl
event_back-words m c (event.Local t n) p q it = rw (value_of-decimal t (omega (arith, it.0)), value_of-decimal n (small_within m n it.1 p)) refl
event_back-words m c (event.Read t n key) p q it = rw (value_of-decimal t (omega (arith, it.0)), value_of-decimal n (small_within m n it.1 p)) refl
event_back-words m c (event.Write t n key value) p q it = rw (value_of-decimal t (omega (arith, it.0)), value_of-decimal n (small_within m n it.1 p)) refl
event_back-words m c (event.Erase t n key) p q it = rw (value_of-decimal t (omega (arith, it.0)), value_of-decimal n (small_within m n it.1 p)) refl
event_back-words m c (event.Scan t n range) p q it = rw (value_of-decimal t (omega (arith, it.0)), value_of-decimal n (small_within m n it.1 p)) refl
event_back-words m c (event.Commit t) p q it = rw (value_of-decimal t (omega (arith, it))) refl
event_back-words m c (event.Abort t) p q it = rw (value_of-decimal t (omega (arith, it))) refl
event_back-words m c (event.Deliver x) p q it = ap delivered (message_back-words m c x p q it)
event_back-words m c (event.Vote t n) p q it = rw (value_of-decimal t (omega (arith, it.0)), value_of-decimal n (small_within m n it.1 p)) refl
event_back-words m c (event.Timer t n) p q it = rw (value_of-decimal t (omega (arith, it.0))) (ap (λ x. Some (event.Timer t x)) (node_same m c n p q it.1))
event_back-words m c (event.Ask t n) p q it = rw (value_of-decimal t (omega (arith, it.0)), value_of-decimal n (small_within m n it.1 p)) refl
event_back-words m c (event.Resend t k) p q it = rw (value_of-decimal t (omega (arith, it.0)), value_of-decimal k (small_within c k it.1 q)) refl
event_back-words m c (event.Crash n) p q it = ap (λ x. Some (event.Crash x)) (node_same m c n p q it)
event_back-words m c (event.Restart n) p q it = ap (λ x. Some (event.Restart x)) (node_same m c n p q it)
event_back-words m c (event.Arm n call l) p q it = rw (value_of-decimal call (omega (arith, it.1.1))) (ap (λ x. Some (event.Arm x call (leaves_from (leaves_word l)))) (node_same m c n p q it.0) ∙ ap (λ x. Some (event.Arm n call x)) (leaves_same l it.2))
event_back-words m c (event.Checkpoint n) p q it = ap (λ x. Some (event.Checkpoint x)) (node_same m c n p q it)

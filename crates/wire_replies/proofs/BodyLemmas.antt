-- Which answer a body can have.
use Rattle.std.proofs.Common.{◌≡◌, ◌∙◌, ◌<◌, ◌^◌, ℕ, List, false, true, true≢false, None, Some, option_and_then, ap, codes, sym, subst}
use Rattle.std.specs.Prelude.{IsUtf8}
use Rattle.serde_json.specs.Data as json
use Rattle.serde_json.specs.Data.{Data}
use Rattle.serde_json.specs.Find.{get}
use Rattle.serde_json.specs.Read.{read}
use Rattle.api_types.specs.Lists.{Each}
use Rattle.api_types.specs.Printed.{Tree}
use Rattle.api_types.proofs.ListLemmas.{none_some, some_equal}
use Rattle.json_trees.specs.Printed.{only, tree_data}
use Rattle.wire_types.specs.declared.reply.WireReply.{WireReply}
use Rattle.wire_types.specs.declared.reply.WireReply.TheVariants.{Change, NoMessage, NoPage, Page, Refused, Version, VersionMoved}
use Rattle.wire_text.specs.Reading.{HasText, IsReadBack}
use Rattle.wire_text.specs.Texts.{IsItem, IsPageRow}
use Rattle.wire_text.specs.Told.{version_tree}
use Rattle.wire_replies.specs.Faults.{is_fault}
use Rattle.wire_replies.specs.Kinds.{IsChange, IsOf, IsPage, IsVersion, answer_in}
use Rattle.wire_replies.specs.ReplyTexts.{IsAnswerText, IsRefused, change_body_tree, fault_tree, page_body_tree}
use Rattle.wire_replies.specs.declared.document.ChangeBody.{ChangeBody}
use Rattle.wire_replies.specs.declared.document.FaultBody.{FaultBody}
use Rattle.wire_replies.specs.declared.document.PageBody.{PageBody}
use Rattle.wire_replies.specs.declared.document.VersionBody.{VersionBody}
use Rattle.wire_replies.proofs.BodyTexts.{change_read, fault_read, page_read, version_read}

-- ---- no document has this text, so no answer has it

abbrev pub NoVersion : List ℕ → Type 0
NoVersion body =
    (x : VersionBody) → (x.first < 2 ^ 64) × (x.last < 2 ^ 64) → IsReadBack (only (codes "version") (version_tree x.first x.last))
    → HasText (only (codes "version") (version_tree x.first x.last)) body → ⊥

pub no_version : (body : List ℕ) → NoVersion body → (r : WireReply) → IsVersion r → IsAnswerText body r → ⊥
no_version body none (Version first last) kind is =
    let x : VersionBody = record { first = first; last = last } in
    none x is.values (version_read x is.values) is.text
no_version body none (Change n items) kind is = absurd kind
no_version body none (Page version n last rows) kind is = absurd kind
no_version body none NoMessage kind is = absurd kind
no_version body none VersionMoved kind is = absurd kind
no_version body none NoPage kind is = absurd kind
no_version body none Refused kind is = absurd kind

abbrev pub NoChange : List ℕ → Type 0
NoChange body =
    (x : ChangeBody) → (x.number < 2 ^ 64) × Each IsItem x.items → IsReadBack (change_body_tree x.number x.items) → HasText (change_body_tree x.number x.items) body → ⊥

pub no_change : (body : List ℕ) → NoChange body → (r : WireReply) → IsChange r → IsAnswerText body r → ⊥
no_change body none (Version first last) kind is = absurd kind
no_change body none (Change n items) kind is =
    let x : ChangeBody = record { items = items; number = n } in
    none x is.values (change_read x is.values) is.text
no_change body none (Page version n last rows) kind is = absurd kind
no_change body none NoMessage kind is = absurd kind
no_change body none VersionMoved kind is = absurd kind
no_change body none NoPage kind is = absurd kind
no_change body none Refused kind is = absurd kind

abbrev pub NoPageText : List ℕ → Type 0
NoPageText body =
    (x : PageBody) → (x.version < 2 ^ 64) × (x.number < 2 ^ 64) × Each IsPageRow x.rows → IsReadBack (page_body_tree x.version x.number x.last x.rows)
    → HasText (page_body_tree x.version x.number x.last x.rows) body → ⊥

pub no_page : (body : List ℕ) → NoPageText body → (r : WireReply) → IsPage r → IsAnswerText body r → ⊥
no_page body none (Version first last) kind is = absurd kind
no_page body none (Change n items) kind is = absurd kind
no_page body none (Page version n last rows) kind is =
    let x : PageBody = record { last = last; number = n; rows = rows; version = version } in
    none x is.values (page_read x is.values) is.text
no_page body none NoMessage kind is = absurd kind
no_page body none VersionMoved kind is = absurd kind
no_page body none NoPage kind is = absurd kind
no_page body none Refused kind is = absurd kind

-- ---- by the members of the value

same_value : (body : List ℕ) (v : Data) (t : Tree) → read body ≡ Some v → IsReadBack t → HasText t body → v ≡ tree_data t
same_value body v t is back text = some_equal v (tree_data t) (sym is ∙ ap read text ∙ back)

-- an answer is the one that its value could be
pub answer_is : (body : List ℕ) (v : Data) → read body ≡ Some v → (r : WireReply) → IsAnswerText body r → IsOf (answer_in v) r
answer_is body v is_read (Version first last) is =
    let x : VersionBody = record { first = first; last = last } in
    subst (λ d. IsOf (answer_in d) (Version first last)) (sym (same_value body v (only (codes "version") (version_tree first last)) is_read (version_read x is.values) is.text)) tt
answer_is body v is_read (Change n items) is =
    let x : ChangeBody = record { items = items; number = n } in
    subst (λ d. IsOf (answer_in d) (Change n items)) (sym (same_value body v (change_body_tree n items) is_read (change_read x is.values) is.text)) tt
answer_is body v is_read (Page version n last rows) is =
    let x : PageBody = record { last = last; number = n; rows = rows; version = version } in
    subst (λ d. IsOf (answer_in d) (Page version n last rows)) (sym (same_value body v (page_body_tree version n last rows) is_read (page_read x is.values) is.text)) tt
answer_is body v is_read NoMessage is = absurd is.text
answer_is body v is_read VersionMoved is = absurd is.text
answer_is body v is_read NoPage is = absurd is.text
answer_is body v is_read Refused is = absurd is.text

-- no answer has a text that spells no value
unread : (body : List ℕ) (t : Tree) → IsReadBack t → HasText t body → read body ≡ None → ⊥
unread body t back text none = none_some (tree_data t) ⊥ (sym none ∙ ap read text ∙ back)

pub no_answer : (body : List ℕ) → (IsUtf8 body → read body ≡ None) → (r : WireReply) → IsAnswerText body r → ⊥
no_answer body none (Version first last) is =
    let x : VersionBody = record { first = first; last = last } in
    unread body (only (codes "version") (version_tree first last)) (version_read x is.values) is.text (none is.utf8)
no_answer body none (Change n items) is =
    let x : ChangeBody = record { items = items; number = n } in
    unread body (change_body_tree n items) (change_read x is.values) is.text (none is.utf8)
no_answer body none (Page version n last rows) is =
    let x : PageBody = record { last = last; number = n; rows = rows; version = version } in
    unread body (page_body_tree version n last rows) (page_read x is.values) is.text (none is.utf8)
no_answer body none NoMessage is = is.text
no_answer body none VersionMoved is = is.text
no_answer body none NoPage is = is.text
no_answer body none Refused is = is.text

-- ---- refusals

abbrev pub NoFault : List ℕ → Type 0
NoFault body =
    (x : FaultBody) → IsUtf8 x.detail × IsUtf8 x.message × IsUtf8 x.kind → IsReadBack (fault_tree x.detail x.message x.kind) → HasText (fault_tree x.detail x.message x.kind) body → ⊥

pub no_fault : (code : ℕ) (body : List ℕ) → NoFault body → (r : WireReply) → IsRefused code body r → ⊥
no_fault code body none r is =
    let x : FaultBody = record { detail = is.detail; message = is.message; kind = is.type } in
    none x is.words (fault_read x is.words) is.text

kind_in : (a b : FaultBody) → tree_data (fault_tree a.detail a.message a.kind) ≡ tree_data (fault_tree b.detail b.message b.kind) → a.kind ≡ b.kind
kind_in a b e = let same : Some (json.string a.kind) ≡ Some (json.string b.kind) = ap (λ d. option_and_then (get (codes "type")) (get (codes "NeutronError") d)) e in cc

-- what is read has the type of the refusal
same_kind : (code : ℕ) (body : List ℕ) (a : FaultBody) (r : WireReply) → IsUtf8 a.detail × IsUtf8 a.message × IsUtf8 a.kind → HasText (fault_tree a.detail a.message a.kind) body → (is : IsRefused code body r) → a.kind ≡ is.type
same_kind code body a r fits text is =
    let x : FaultBody = record { detail = is.detail; message = is.message; kind = is.type } in
    kind_in a x (some_equal (tree_data (fault_tree a.detail a.message a.kind)) (tree_data (fault_tree x.detail x.message x.kind))
    (sym (fault_read a fits) ∙ ap read (sym text ∙ is.text) ∙ fault_read x is.words))

pub unlisted : (code : ℕ) (body : List ℕ) (a : FaultBody) → IsUtf8 a.detail × IsUtf8 a.message × IsUtf8 a.kind → HasText (fault_tree a.detail a.message a.kind) body → is_fault code a.kind ≡ false → (r : WireReply) → IsRefused code body r → ⊥
unlisted code body a fits text none r is =
    true≢false (sym is.listed ∙ ap (is_fault code) (sym (same_kind code body a r fits text is)) ∙ none)

pub no_refusal : (code : ℕ) (body : List ℕ) → (IsUtf8 body → read body ≡ None) → (r : WireReply) → IsRefused code body r → ⊥
no_refusal code body none r is =
    let x : FaultBody = record { detail = is.detail; message = is.message; kind = is.type } in
    unread body (fault_tree is.detail is.message is.type) (fault_read x is.words) is.text (none is.utf8)

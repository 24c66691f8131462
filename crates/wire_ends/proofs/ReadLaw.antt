-- What a server writes to an agent's ask is read as what it replies.
use Rattle.std.proofs.Common.{inl, inr, ◌≡◌, ◌≤◌, ℕ, List, [], ◌∷◌, Bool, true, false, not, None, Some, Option, refl, ap, sym, subst, length}
use Rattle.std.specs.Prelude.{◌==◌, codes, if◌then◌else◌}
use Rattle.std.proofs.lemmas.Str.{IsUtf8-nil}
use Rattle.api_types.specs.Refusing.{first_refusal, when}
use Rattle.api_types.specs.declared.call.Caller.{Caller}
use Rattle.api_types.specs.declared.change.Item.{Item}
use Rattle.api_types.specs.declared.page.PageRow.{PageRow}
use Rattle.api_types.specs.declared.refusal.PolicyRule.TheVariants.{AdminOnly}
use Rattle.api_types.specs.declared.refusal.Refusal.TheVariants.{Forbidden, NoMessage, NoPage, OutOfMemory, VersionMoved}
use Rattle.bus_core.specs.History.{change_at, first_kept}
use Rattle.json_replies.specs.Bodies.{fault_tree, lab_tree}
use Rattle.json_trees.specs.Printed.{body_text}
use Rattle.lab_world.specs.Lab.{Answered, Barred, LabOutcome, change_told, for_admins, lab_outcome, page_refusal, page_told, unless_barred, version_told}
use Rattle.lab_world.specs.World.{ByLab}
use Rattle.neutron_http.specs.Faults.{message_of}
use Rattle.neutron_serve.specs.Replies.{outcome_bytes}
use Rattle.plane_types.specs.declared.ask.LabAnswer.TheVariants as answer
use Rattle.wire_ends.specs.Written.{HasTypes, IsText, body_in, call_of}
use Rattle.wire_replies.specs.ReplyTexts.{IsReplyText}
use Rattle.wire_types.specs.Pages.{all_rows, is_last_page, is_page, page}
use Rattle.wire_types.specs.Replies.{body_limit, change_reply, reply_with}
use Rattle.wire_types.specs.declared.ask.WireAsk.{WireAsk}
use Rattle.wire_types.specs.declared.ask.WireAsk.TheVariants as ask
use Rattle.wire_types.specs.declared.reply.WireReply.{WireReply}
use Rattle.wire_types.specs.declared.reply.WireReply.TheVariants as reply
use Rattle.world_laws.specs.World.{World}

-- what answers an ask of an administrator is read as this
abbrev IsReadSo : Bool → LabOutcome → WireReply → Type 0
IsReadSo close outcome r =
    HasTypes r → IsText outcome → length (body_in outcome) ≤ body_limit → IsReplyText (outcome_bytes close (ByLab outcome)) r

for_admin : (caller : Caller) (o : LabOutcome) → caller.admin ≡ true → for_admins caller o ≡ o
for_admin caller o admin = ap (λ b. unless_barred (when (not b) (Forbidden AdminOnly)) o) admin

-- a status of an answer, or of these refusals, lists no methods
not_405 : (code : ℕ) → (code == 405) ≡ false → code ≡ 405 → ⊥
not_405 code other same = let clash : true ≡ false = subst (λ n. (n == 405) ≡ false) same other in cc

version_read : (close : Bool) (first last : ℕ) (w : World) → IsReadSo close (Answered (answer.Version first last) w) (reply.Version first last)
version_read close first last w typed text short = record {
  code = 200;
  close = close;
  allow = None;
  body = body_text (Some (lab_tree (answer.Version first last)));
  most = short;
  allowed = not_405 200 refl;
  is = refl;
  says = inl (refl, record { values = typed; utf8 = text.body; text = refl });
}

change_read : (close : Bool) (n : ℕ) (items : List Item) (w : World) → IsReadSo close (Answered (answer.Change n items) w) (reply.Change n items)
change_read close n items w typed text short = record {
  code = 200;
  close = close;
  allow = None;
  body = body_text (Some (lab_tree (answer.Change n items)));
  most = short;
  allowed = not_405 200 refl;
  is = refl;
  says = inl (refl, record { values = typed; utf8 = text.body; text = refl });
}

page_read : (close : Bool) (version n : ℕ) (last : Bool) (rows : List PageRow) (w : World) → IsReadSo close (Answered (answer.Page version n last rows) w) (reply.Page version n last rows)
page_read close version n last rows w typed text short = record {
  code = 200;
  close = close;
  allow = None;
  body = body_text (Some (lab_tree (answer.Page version n last rows)));
  most = short;
  allowed = not_405 200 refl;
  is = refl;
  says = inl (refl, record { values = typed; utf8 = text.body; text = refl });
}

gone_read : (close : Bool) (asked first last : ℕ) → IsReadSo close (Barred (NoMessage asked first last)) reply.NoMessage
gone_read close asked first last typed text short = record {
  code = 404;
  close = close;
  allow = None;
  body = body_text (Some (fault_tree (NoMessage asked first last)));
  most = short;
  allowed = not_405 404 refl;
  is = refl;
  says = inr (record {
    type = codes "MessageGone";
    detail = [];
    message = message_of (NoMessage asked first last);
    listed = refl;
    words = (IsUtf8-nil, text.words.0, text.words.1);
    utf8 = text.body;
    text = refl;
    is = refl;
  });
}

moved_read : (close : Bool) (asked now : ℕ) → IsReadSo close (Barred (VersionMoved asked now)) reply.VersionMoved
moved_read close asked now typed text short = record {
  code = 409;
  close = close;
  allow = None;
  body = body_text (Some (fault_tree (VersionMoved asked now)));
  most = short;
  allowed = not_405 409 refl;
  is = refl;
  says = inr (record {
    type = codes "VersionMoved";
    detail = [];
    message = message_of (VersionMoved asked now);
    listed = refl;
    words = (IsUtf8-nil, text.words.0, text.words.1);
    utf8 = text.body;
    text = refl;
    is = refl;
  });
}

missing_read : (close : Bool) (number : ℕ) → IsReadSo close (Barred (NoPage number)) reply.NoPage
missing_read close number typed text short = record {
  code = 404;
  close = close;
  allow = None;
  body = body_text (Some (fault_tree (NoPage number)));
  most = short;
  allowed = not_405 404 refl;
  is = refl;
  says = inr (record {
    type = codes "PageNotFound";
    detail = [];
    message = message_of (NoPage number);
    listed = refl;
    words = (IsUtf8-nil, text.words.0, text.words.1);
    utf8 = text.body;
    text = refl;
    is = refl;
  });
}

change_by : (close : Bool) (w : World) (n : ℕ) (c : Option (List Item)) → IsReadSo close (change_told w n c) (change_reply n c)
change_by close w n None = gone_read close n (first_kept w.history) w.history.version
change_by close w n (Some c) = change_read close n c w

-- by the version that is asked for, and by whether the page is there
page_by : (close : Bool) (w : World) (v n : ℕ) (same there : Bool)
    → IsReadSo close
    (unless_barred
    (first_refusal (when (not same) (VersionMoved v w.history.version) ∷ when (not there) (NoPage n) ∷ []))
    (Answered (page_told w v n) w))
    (if same then (if there then reply.Page v n (is_last_page n (all_rows w.history.rows)) (page n (all_rows w.history.rows)) else reply.NoPage)
    else reply.VersionMoved)
page_by close w v n true true = page_read close v n (is_last_page n (all_rows w.history.rows)) (page n (all_rows w.history.rows)) w
page_by close w v n true false = missing_read close n
page_by close w v n false there = moved_read close v w.history.version

asked_read : (close : Bool) (w : World) (caller : Caller) (question : WireAsk) → caller.admin ≡ true
    → IsReadSo close (lab_outcome w caller (call_of question)) (reply_with w.history question)
asked_read close w caller ask.Version admin =
    subst (λ o. IsReadSo close o (reply.Version (first_kept w.history) w.history.version)) (sym (for_admin caller (Answered (version_told w) w) admin))
    (version_read close (first_kept w.history) w.history.version w)
asked_read close w caller (ask.Change n) admin =
    subst (λ o. IsReadSo close o (change_reply n (change_at w.history n))) (sym (for_admin caller (change_told w n (change_at w.history n)) admin))
    (change_by close w n (change_at w.history n))
asked_read close w caller (ask.Page v n) admin =
    subst (λ o. IsReadSo close o (reply_with w.history (ask.Page v n)))
    (sym (for_admin caller (unless_barred (page_refusal w v n) (Answered (page_told w v n) w)) admin))
    (page_by close w v n (v == w.history.version) (is_page n (all_rows w.history.rows)))

pub replies_law : (w : World) (caller : Caller) (close : Bool) (question : WireAsk) → caller.admin ≡ true → IsReadSo close (lab_outcome w caller (call_of question)) (reply_with w.history question)
replies_law w caller close question admin = asked_read close w caller question admin

pub memory_law : (close : Bool) → IsReadSo close (Barred OutOfMemory) reply.Refused
memory_law close typed text short = record {
  code = 507;
  close = close;
  allow = None;
  body = body_text (Some (fault_tree OutOfMemory));
  most = short;
  allowed = not_405 507 refl;
  is = refl;
  says = inr (record {
    type = codes "OutOfMemory";
    detail = [];
    message = message_of OutOfMemory;
    listed = refl;
    words = (IsUtf8-nil, text.words.0, text.words.1);
    utf8 = text.body;
    text = refl;
    is = refl;
  });
}

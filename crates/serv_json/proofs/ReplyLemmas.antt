-- The text of a reply's value, byte for byte.
use Rattle.std.proofs.Common.{◌≡◌, ℕ, List, [], ◌++◌, Option, Some, None, false, refl, append_assoc}
use Rattle.std.specs.Prelude.{codes}
use Rattle.std.proofs.lemmas.Str.{IsUtf8-from_ascii}
use Rattle.json.specs.Print.{quoted, escape_byte}
use Rattle.serde_json.specs.Written.{compact_text, has_float}
use Rattle.svc_base.specs.Text.{text_of_number}
use Rattle.serv_json.specs.Replies.{number_member, reply_text, reply_value}

pub reply_whole : (code : ℕ) (n : Option ℕ) (text : List ℕ) → has_float (reply_value code n text) ≡ false
reply_whole code None text = refl
reply_whole code (Some n) text = refl

parts : (head a n mid q end : List ℕ) → head ++ (a ++ (n ++ (mid ++ (q ++ end)))) ≡ head ++ a ++ n ++ mid ++ q ++ end
parts head a n mid q end = simp append_assoc

pub reply_bytes : (code : ℕ) (n : Option ℕ) (text : List ℕ) → compact_text (reply_value code n text) ≡ reply_text code n text
unfolding escape_byte
reply_bytes code None text =
    parts (codes "{\"code\":") (text_of_number code) [] (codes ",\"text\":") (quoted text) (codes "}")
reply_bytes code (Some n) text =
    parts (codes "{\"code\":") (text_of_number code) (number_member (Some n)) (codes ",\"text\":") (quoted text) (codes "}")

pub ruleset ascii_texts = IsUtf8-from_ascii

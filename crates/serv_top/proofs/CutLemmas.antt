-- A front part of many replies is some whole ones and a part of the next one.
use Rattle.std.proofs.Common.{◌≡◌, ℕ, ◌<◌, List, [], ◌∷◌, ◌++◌, length, take, drop, arith, refl, sym, ap, ◌∙◌, inl, inr, length-append, append_assoc, take-append-drop}
use Rattle.std.proofs.lemmas.Bool.{cases_lt}
use Rattle.std.proofs.lemmas.List.{length-drop, take_at, drop_at, take-append-le, drop-append-le}
use Rattle.serv_disk.specs.Faults.{IsProperPrefix}
use Rattle.serv_machine.specs.History.{History, Stand}
use Rattle.serv_machine.specs.Sayings.{Saying, AreFirst, reply_to, history_after, history_after_all, replies_to}
use Rattle.serv_machine.specs.Answering.{IsCutIn}
use Rattle.serv_top.specs.Outcome.{IsCutAt}

-- where a text ends in the replies to these
record EndsIn (saids : List Saying) (h : History) (written : List ℕ) : Type 0 where
  said : List Saying
  last : Saying
  others : List Saying
  saids_are : saids ≡ said ++ last ∷ others
  part : List ℕ
  text : written ≡ replies_to h said ++ part
  partial : IsProperPrefix part (reply_to (history_after_all h said) last)

-- it ends in the first reply
ends_first : (s : Saying) (saids : List Saying) (h : History) (written rest tail : List ℕ) → length written < length (reply_to h s) → reply_to h s ++ tail ≡ written ++ rest → EndsIn (s ∷ saids) h written
ends_first s saids h written rest tail inside e =
    let n = length written in
    let reply = reply_to h s in
    let front : take n reply ≡ written = sym (take-append-le n reply tail (omega arith)) ∙ ap (take n) e ∙ take_at written rest n refl in
    let left = length-drop n reply in
    record {
      said = [];
      last = s;
      others = saids;
      saids_are = refl;
      part = written;
      text = refl;
      partial = record { rest = drop n reply; some = omega (arith, left, inside); joined = sym (take-append-drop n reply) ∙ ap (λ t. t ++ drop n reply) front };
    }

-- or in a later one
ends_later : (s : Saying) (saids : List Saying) (h : History) (written : List ℕ) → take (length (reply_to h s)) written ≡ reply_to h s → EndsIn saids (history_after h s) (drop (length (reply_to h s)) written)
    → EndsIn (s ∷ saids) h written
ends_later s saids h written front inner =
    let reply = reply_to h s in
    let m = length reply in
    record {
      said = s ∷ inner.said;
      last = inner.last;
      others = inner.others;
      saids_are = ap (λ ss. s ∷ ss) inner.saids_are;
      part = inner.part;
      text = sym (take-append-drop m written) ∙ ap (λ t. t ++ drop m written) front ∙ ap (λ t. reply ++ t) inner.text
          ∙ sym (append_assoc reply (replies_to (history_after h s) inner.said) inner.part);
      partial = inner.partial;
    }

ends_in : (saids : List Saying) (h : History) (written rest : List ℕ) → 0 < length rest → replies_to h saids ≡ written ++ rest → EndsIn saids h written
ends_in [] h written rest some e =
    let n : 0 ≡ length (written ++ rest) = ap length e in
    let m = length-append written rest in
    absurd (omega (arith, n, m, some))
ends_in (s ∷ saids) h written rest some e =
    let reply = reply_to h s in
    let tail = replies_to (history_after h s) saids in
    elim (cases_lt (length written) (length reply)) [
      | inl inside ↦ ends_first s saids h written rest tail inside e
      | inr beyond ↦
          let m = length reply in
          let front : take m written ≡ reply = sym (take-append-le m written rest beyond) ∙ sym (ap (take m) e) ∙ take_at reply tail m refl in
          let behind : tail ≡ drop m written ++ rest = sym (drop_at reply tail m refl) ∙ ap (drop m) e ∙ drop-append-le m written rest beyond in
          ends_later s saids h written front (ends_in saids (history_after h s) (drop m written) rest some behind)
    ]

pub cut_in_one : (Whole : List Saying → Type 0) (waiting : ℕ) (s s' : Stand) (written : List ℕ) → IsCutIn (AreFirst Whole) waiting s s' written → IsCutAt (AreFirst Whole) s.history written
cut_in_one Whole waiting s s' written cut =
    let at = ends_in (cut.done ++ cut.last ∷ []) s.history written cut.cut.rest cut.cut.some cut.cut.joined in
    record {
      said = at.said;
      last = at.last;
      first = record {
        saids = cut.first.saids;
        whole = cut.first.whole;
        others = at.others ++ cut.first.others;
        saids_are = cut.first.saids_are ∙ sym (append_assoc cut.done (cut.last ∷ []) cut.first.others) ∙ ap (λ l. l ++ cut.first.others) at.saids_are ∙ append_assoc at.said (at.last ∷ at.others) cut.first.others;
      };
      part = at.part;
      text = at.text;
      partial = at.partial;
    }

-- Where no reply may wait, all replies but the last are whole.
use Rattle.std.proofs.Common.{◌≡◌, ℕ, ◌≤◌, List, [], ◌∷◌, ◌++◌, length, take, drop, arith, refl, sym, ap, ◌∙◌, append-nil, take-append-drop}
use Rattle.std.proofs.lemmas.List.{take_at, take-append-le, drop_at, drop-append-le}
use Rattle.serv_machine.specs.History.{Stand}
use Rattle.svc_world.specs.World.{Accepted}
use Rattle.serv_machine.specs.declared.faults.Stop.{Stop}
use Rattle.serv_machine.specs.Sayings.{Saying, reply_to, history_after_all, replies_to}
use Rattle.serv_machine.specs.Answering.{AnsweredBut, IsCutIn}
use Rattle.serv_machine.proofs.SayingLemmas.{replies_to-push}
use Rattle.serv_top.specs.Outcome.{IsCutOff}

-- nothing is missing where at most nothing is
none_left : (rest : List ℕ) → length rest ≤ 0 → rest ≡ []
none_left [] few = refl
none_left (b ∷ rest) few = absurd (omega (arith, few))

pub all_written : (text written rest : List ℕ) → text ≡ written ++ rest → length rest ≤ 0 → written ≡ text
all_written text written rest e few = sym (append-nil written) ∙ ap (λ r. written ++ r) (sym (none_left rest few)) ∙ sym e

-- two texts are one, and the first part of one is not longer than that of the other
record Ahead (first last written rest : List ℕ) : Type 0 where
  part : List ℕ
  text : written ≡ first ++ part
  left : last ≡ part ++ rest

ahead : (first last written rest : List ℕ) → first ++ last ≡ written ++ rest → length first ≤ length written → Ahead first last written rest
ahead first last written rest e few =
    let n = length first in
    let front : take n written ≡ first = sym (take-append-le n written rest few) ∙ sym (ap (take n) e) ∙ take_at first last n refl in
    record {
      part = drop n written;
      text = sym (take-append-drop n written) ∙ ap (λ t. t ++ drop n written) front;
      left = sym (drop_at first last n refl) ∙ ap (drop n) e ∙ drop-append-le n written rest few;
    }

pub cut_off : (First : List Saying → List Saying → Type 0) (s s' : Stand) (written : List ℕ) → IsCutIn First 0 s s' written → IsCutOff First s s' written
cut_off First s s' written c =
    let text : replies_to s.history c.done ++ reply_to (history_after_all s.history c.done) c.last ≡ written ++ c.cut.rest = sym (replies_to-push s.history c.done c.last) ∙ c.cut.joined in
    let few : length (replies_to s.history c.done) ≤ length written = omega (arith, c.late) in
    let a = ahead (replies_to s.history c.done) (reply_to (history_after_all s.history c.done) c.last) written c.cut.rest text few in
    record {
      at = record { said = c.done; last = c.last; first = c.first; part = a.part; text = a.text; partial = record { rest = c.cut.rest; some = c.cut.some; joined = a.left } };
      moved = c.moved;
    }

pub but_whole : (why : Stop) (First : List Saying → List Saying → Type 0) (s s' : Stand) (pending : List Accepted) (written : List ℕ) → (but : AnsweredBut why First 0 s s' pending written) → written ≡ replies_to s.history but.done
but_whole why First s s' pending written but = all_written (replies_to s.history but.done) written but.rest but.text but.few

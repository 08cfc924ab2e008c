use Rattle.std.proofs.Common.{◌<◌, ◌≤◌, [], ◌++◌, ◌≡◌, ◌+◌, length, get_or, refl, arith, sym, ap, subst, ◌∙◌, append-nil}
use Rattle.std.proofs.Math.ListN.{get_or-map as get_mapped}
use Rattle.std.specs.List.{All}
use Rattle.std.proofs.lemmas.List.{length-map, get_or_default}
use Rattle.std.proofs.lemmas.List.Elements.{All-set}
use Rattle.svc_world.specs.declared.custody.Custody.{Custody}
use Rattle.custodial_book.specs.Rows.{rows_of}
use Rattle.svc_custody.specs.declared.position.Position.{Position}
use Rattle.svc_world.specs.Custody.{no_totals}
use Rattle.svc_loan.specs.Kept.{KeptLoan}
use Rattle.svc_loan.specs.Loans.{held_in}
use Rattle.svc_custody.specs.Positions as rule
use Rattle.svc_custody.specs.Appending.{MayAppend}
use Rattle.svc_custody.specs.Positions.{IsLine, IsPosition, positions_of, totals_in, line_in}
use Rattle.svc_rules.specs.State.{world_of}
use Rattle.svc_custody.proofs.LineLemmas.{positions_line, line_set, line_of_world}
use Rattle.svc_custody.proofs.PositionLemmas.{at_place}
use Rattle.svc_custody.proofs.AppendLemmas.{along_none, are_later, may_append_here, rows_here}
use Rattle.svc_custody.proofs.EachLemmas.{AreMoved, none_moved, one_moved, all_moved, still_within, totals_before}
use Rattle.svc_custody.proofs.booking.add_all_rows.Given.{Over}
use Rattle.svc_custody.proofs.booking.add_all_rows.Goals as goal

pub loop-i-init : goal.loop-i-init
loop-i-init g c =
    let w = world_of c.args.state.now.today c.args.state.now.loans c.args.state.now.seals in
    let rows = c.args.cash.now.book.rows in
    record {
      rows = sym (ap (λ rs. rows ++ rs) (along_none c.args.number w []) ∙ append-nil rows);
      line = c.requires.line;
      within = c.requires.before;
      moved = none_moved w (held_in c.args.state.now.loans.loans) c.args.cash.now.positions.items;
      spare = (let room = c.requires.room in omega (arith, room));
      end = c.len-i-end.ensures;
      same = refl;
      from = omega arith;
    }

-- there is one at the place
here : (g : Over) (c : goal.After-later-1 g) → c.loop-i.i < length c.loop-i.cash.positions.items
here g c = still_within (world_of c.args.state.now.today c.args.state.now.loans c.args.state.now.seals) c.args.state.now.loans.loans c.args.cash.now.positions.items c.loop-i.cash.positions.items c.loop-i.i _ c.loop-i.invariant.end c.loop-i-test.true c.requires.may.count c.loop-i.invariant.moved

pub move_to-requires-clause-place : goal.move_to-requires-clause-place
move_to-requires-clause-place g c = here g c

pub move_to-requires-clause-may : goal.move_to-requires-clause-may
move_to-requires-clause-may g c x =
    let w = world_of c.args.state.now.today c.args.state.now.loans c.args.state.now.seals in
    let ks = c.args.state.now.loans.loans in
    let i = c.loop-i.i in
    let k = c.at.result.now in
    let number = c.id-id.ensures ∙ ap (λ (j : KeptLoan). j.held.id) c.at.ensures ∙ sym (ap (λ (l : _). l.id) (get_mapped (λ (j : KeptLoan). j.held) ks i k)) in
    let lt : i < length (held_in ks) = (let t = c.loop-i-test.true in let e = c.loop-i.invariant.end in let m = length-map ks (λ (j : KeptLoan). j.held) in omega (arith, t, e, m)) in
    let olds = c.args.cash.now.positions.items in
    let news = c.loop-i.cash.positions.items in
    let count : length olds ≡ length (held_in ks) = (let m = c.requires.may.count in omega (arith, m, length-map olds (λ (x : Position). x.totals))) in
    let was = totals_before w (held_in ks) olds news i (get_or news i x) no_totals (omega (arith, lt, count)) (λ d. get_or_default news i x d (here g c)) c.loop-i.invariant.moved in
    subst (λ t. MayAppend c.args.number c.id-id.result c.loop-i.cash.book.rows t c.position_at-later.result.totals) (sym was)
    (may_append_here c.args.number c.id-id.result w (totals_in c.args.cash.now.positions.items) c.args.cash.now.book.rows c.loop-i.cash.book.rows i no_totals k.held c.position_at-later.result (are_later w ks c.requires.read refl) c.requires.may lt number c.loop-i.invariant.rows (c.position_at-later.ensures.value k.held))

pub move_to-requires-clause-line : goal.move_to-requires-clause-line
move_to-requires-clause-line g c =
    let w = world_of c.args.state.now.today c.args.state.now.loans c.args.state.now.seals in
    let ks = c.args.state.now.loans.loans in
    let i = c.loop-i.i in
    let news = c.loop-i.cash.positions.items in
    let few : length news ≤ 12_000 = (let f = c.requires.read.few in let m = c.requires.may.count in let n = c.loop-i.invariant.moved.count in omega (arith, f, m, n, length-map c.args.cash.now.positions.items (λ (x : Position). x.totals), length-map ks (λ (j : KeptLoan). j.held))) in
    subst IsLine (sym c.loop-i.invariant.line) (positions_line news few c.loop-i.invariant.within)

pub loop-i-preserved : goal.loop-i-preserved
loop-i-preserved g c =
    let w = world_of c.args.state.now.today c.args.state.now.loans c.args.state.now.seals in
    let ks = c.args.state.now.loans.loans in
    let i = c.loop-i.i in
    let k = c.at.result.now in
    let number = c.id-id.ensures ∙ ap (λ (j : KeptLoan). j.held.id) c.at.ensures ∙ sym (ap (λ (l : _). l.id) (get_mapped (λ (j : KeptLoan). j.held) ks i k)) in
    let lt : i < length (held_in ks) = (let t = c.loop-i-test.true in let e = c.loop-i.invariant.end in let m = length-map ks (λ (j : KeptLoan). j.held) in omega (arith, t, e, m)) in
    let olds = c.args.cash.now.positions.items in
    let news = c.loop-i.cash.positions.items in
    let count : length olds ≡ length (held_in ks) = (let m = c.requires.may.count in omega (arith, m, length-map olds (λ (x : Position). x.totals))) in
    let d = (at_place (held_in ks) i lt).0 in
    let later = c.position_at-later.result in
    let within : i < length news = still_within w ks olds news i _ c.loop-i.invariant.end c.loop-i-test.true c.requires.may.count c.loop-i.invariant.moved in
    let was = totals_before w (held_in ks) olds news i (get_or news i later) no_totals (omega (arith, lt, count)) (λ x. get_or_default news i later x within) c.loop-i.invariant.moved in
    record {
      rows = rows_here c.args.number c.id-id.result w (totals_in c.args.cash.now.positions.items) c.args.cash.now.book.rows c.loop-i.cash.book.rows c.move_to.new.cash.book.rows i no_totals k.held later c.requires.may lt number c.loop-i.invariant.rows (c.position_at-later.ensures.value k.held) (c.move_to.ensures.rows later ∙ ap (λ t. c.loop-i.cash.book.rows ++ rows_of c.args.number c.id-id.result t later.totals) was);
      moved = subst (λ xs. AreMoved w (held_in ks) olds xs (i + 1)) (sym c.move_to.ensures.positions) (one_moved w (held_in ks) olds news i later lt count c.position_at-later.ensures.value c.loop-i.invariant.moved);
      line =
          c.move_to.ensures.custody later
          ∙ ap (λ (x : Custody). rule.line_after x (get_or news i later) later) c.loop-i.invariant.line
          ∙ sym (line_set news i later later within)
          ∙ ap line_in (sym c.move_to.ensures.positions);
      within = subst (All IsPosition) (sym c.move_to.ensures.positions) (All-set IsPosition news i later c.position_at-later.ensures.limits c.loop-i.invariant.within);
      spare = (let before = c.loop-i.invariant.spare in let room = c.move_to.ensures.spare in omega (arith, before, room));
      end = c.loop-i.invariant.end;
      same = c.loop-i.invariant.same;
      from = (let t = c.loop-i-test.true in omega (arith, t));
    }

are_moved : (g : Over) (c : goal.After-loop-i g) → c.loop-i.cash.positions.items ≡ positions_of (world_of c.args.state.now.today c.args.state.now.loans c.args.state.now.seals)
are_moved g c =
    let w = world_of c.args.state.now.today c.args.state.now.loans c.args.state.now.seals in
    let ks = c.args.state.now.loans.loans in
    let i = c.loop-i.i in
    let all : length (held_in ks) ≤ i = (let t = c.loop-i-test.false in let e = c.loop-i.invariant.end in let m = length-map ks (λ (j : KeptLoan). j.held) in omega (arith, t, e, m)) in
    let olds = c.args.cash.now.positions.items in
    let count : length olds ≡ length (held_in ks) = (let m = c.requires.may.count in omega (arith, m, length-map olds (λ (x : Position). x.totals))) in
    all_moved w (held_in ks) olds c.loop-i.cash.positions.items i all count c.loop-i.invariant.moved

pub returns-clause-custody : goal.returns-clause-custody
returns-clause-custody g c =
    c.loop-i.invariant.line
    ∙ ap line_in (are_moved g c)
    ∙ line_of_world (world_of c.args.state.now.today c.args.state.now.loans c.args.state.now.seals)

pub returns-clause-positions : goal.returns-clause-positions
returns-clause-positions g c = are_moved g c

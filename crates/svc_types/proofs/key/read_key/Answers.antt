use Rattle.svc_types.proofs.KeyFields.{copied_key, copied_front}
use Rattle.std.proofs.Common.{refl}
use Rattle.svc_types.proofs.key.read_key.Goals as goal

pub invariant_of-result : goal.invariant_of-result
invariant_of-result c = copied_key c.args.text.now c.copy_from_slice.new.self (c.if-not-is_key.ensures.0 refl) (cc)

pub returns : goal.returns
returns c = (c.if-not-is_key.ensures.0 refl, copied_front c.args.text.now c.copy_from_slice.new.self _ (cc))

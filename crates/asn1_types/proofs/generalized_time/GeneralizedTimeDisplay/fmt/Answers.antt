use Rattle.std.proofs.Common.{refl, arith}
use Rattle.asn1_types.specs.Facts.Times.{day_below}
use Rattle.asn1_types.proofs.Padding.{two_written, four_written}
use Rattle.asn1_types.proofs.generalized_time.GeneralizedTimeDisplay.fmt.Goals as goal

pub returns-clause-writes : goal.returns-clause-writes
returns-clause-writes g c plain ok =
    let date = c.args.self.now in
    let year = four_written _ _ date.year c.laid_out.ensures refl (omega arith) in
    let month = two_written _ _ date.month c.laid_out-2.ensures refl (omega arith) in
    let day = two_written _ _ date.day c.laid_out-3.ensures refl (day_below date.exists) in
    let hour = two_written _ _ date.hour c.laid_out-4.ensures refl (omega arith) in
    let minute = two_written _ _ date.minute c.laid_out-5.ensures refl (omega arith) in
    let second = two_written _ _ date.second c.laid_out-6.ensures refl (omega arith) in
    rw (year, month, day, hour, minute, second) at (c.write.ensures.writes plain ok)

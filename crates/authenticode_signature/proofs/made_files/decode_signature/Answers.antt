use Rattle.authenticode_signature.proofs.ReadFiles.{read_as_made}
use Rattle.authenticode_signature.proofs.made_files.decode_signature.Goals as goal

pub returns-clause-made : goal.returns-clause-made
returns-clause-made c = λ p kind known file. read_as_made c.args.octets.now p kind c.read_file.result known file c.read_file.ensures.answer

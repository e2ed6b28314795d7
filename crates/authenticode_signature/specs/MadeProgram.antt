-- What is signed of a program.
use Rattle.authenticode_parts.specs.SignedProgram.{Program as SignedProgram}
use Rattle.cms_types.specs.OpusInfo.{opus_info}
use Rattle.authenticode_signature.specs.declared.making.Program.{Program}

-- the program that a signature is made for
abbrev pub program_for : Program → SignedProgram
program_for program = record {
  hash = program.hash;
  file_hash = program.file_hash.now;
  opus = opus_info program.opus.now;
}

use Rattle.key_core.proofs.public_key.PublicKey.from_rsa_components.Goals as goal

pub returns : goal.returns
returns c = record {
  key = record { modulus = c.in_ok-from_bytes_be_unsigned.field-0; public_exponent = c.in_ok-from_bytes_be_unsigned-2.field-0 };
  rsa = c.in_ok-rsa_info.ensures;
  modulus_is = c.in_ok-from_bytes_be_unsigned.ensures;
  exponent_is = c.in_ok-from_bytes_be_unsigned-2.ensures;
}

-- The errors of issuing that wrap another.
use Rattle.key_core.specs.declared.signature_error.SignatureError.{SignatureError}
use Rattle.key_core.specs.declared.signature_error.SignatureError.TheVariants as signature
use Rattle.x509_core.specs.declared.csr_error.CsrError.{CsrError}
use Rattle.x509_core.specs.declared.csr_error.CsrError.TheVariants as csr
use Rattle.x509_core.specs.declared.error.CertError.{CertError}
use Rattle.x509_core.specs.declared.error.CertError.TheVariants as cert
use Rattle.ca_register.specs.declared.error.IssueError.{IssueError}
use Rattle.ca_register.specs.declared.error.IssueError.TheVariants as errors

-- Out of memory is reported as such, any other cause with what was being done.

-- a request isn't read
abbrev pub unread_request : CsrError → IssueError
unread_request csr.Memory = errors.Memory
unread_request source = errors.Request source

-- a certificate isn't built
abbrev pub unbuilt : CertError → IssueError
unbuilt cert.Memory = errors.Memory
unbuilt source = errors.Build source

-- a signature isn't accepted
abbrev pub wrong_key : SignatureError → IssueError
wrong_key signature.Memory = errors.Memory
wrong_key source = errors.WrongKey source

mod InKernel
